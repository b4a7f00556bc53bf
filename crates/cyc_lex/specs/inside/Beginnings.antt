-- This file finds the keyword that the first byte, the middle byte and the length of a name determine.
use Rattle.std.specs.Prelude.{ℕ, ◌==◌, nat_lt, if◌then◌else◌, Option, Some, None}
use Rattle.cyc_syntax.specs.declared.tokens.Keyword.{Keyword}
use Rattle.cyc_syntax.specs.declared.tokens.Keyword.TheVariants as words

-- the only keyword that may have this first byte, this middle byte and this length
abbrev pub likely_keyword : (first middle len : ℕ) → Option Keyword
likely_keyword b m n =
    if nat_lt n 2 then None
    else (if b == 97 then Some words.Alias
    else (if b == 98 then Some words.Break
    else (if b == 99 then (if n == 4 then (if m == 97 then Some words.Char else Some words.Case) else (if n == 5 then Some words.Catch else Some words.Continue))
    else (if b == 100 then (if n == 7 then Some words.Default else Some words.Datatype)
    else (if b == 101 then (if n == 3 then Some words.Exn else Some words.Else)
    else (if b == 102 then (if n == 3 then Some words.For else Some words.FreeKey)
    else (if b == 104 then Some words.HeapRegion
    else (if b == 105 then (if n == 2 then Some words.If else Some words.Int)
    else (if b == 108 then Some words.Let
    else (if b == 110 then (if n == 3 then Some words.New else (if n == 7 then Some words.NumberOfElements else Some words.NewKey))
    else (if b == 111 then Some words.Open
    else (if b == 114 then (if n == 4 then Some words.RegionNew else (if n == 6 then (if m == 105 then Some words.Region else Some words.Return) else Some words.RegionType))
    else (if b == 115 then Some words.Struct
    else (if b == 116 then (if n == 3 then Some words.Try else Some words.Throw)
    else (if b == 117 then (if n == 5 then Some words.FreeUnique else (if m == 110 then Some words.KeyType else Some words.UniqueRegion))
    else (if b == 118 then Some words.Void
    else (if b == 119 then Some words.While
    else (if b == 78 then (if n == 4 then Some words.Null else Some words.NewDynamicRegion)
    else None))))))))))))))))))
