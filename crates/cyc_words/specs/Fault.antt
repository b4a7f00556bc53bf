-- This file defines the faults of a source text, and the numbers of their codes, which are this project's own choice.
use Rattle.std.specs.Prelude.{ℕ}
use Rattle.cyc_words.specs.declared.fault.Code.{Code}
use Rattle.cyc_words.specs.declared.fault.Fault.{Fault}
use Rattle.cyc_words.specs.declared.fault.Code.TheVariants.{UnknownByte, UnclosedComment, NumberTooLarge, TextTooLong, Memory, TooManyTokens, UnexpectedToken, UnexpectedEnd, NestingTooDeep, ListTooLong, UnknownName, DeclaredTwice, TypeMismatch, NullForNonNull}
use Rattle.cyc_words.specs.declared.fault.Code.TheVariants.{RegionNotLive, NotOutlived, EffectNotCovered, UniqueShared, NotAPlace, RegionOrKeyMisused, BadMain, OutsideLoop, EmptyVariable, LockedVariable, LoopEmptiesVariable, MissingReturn, TooManyFunctions}
use Rattle.cyc_words.specs.declared.fault.Code.TheVariants.{FrameTooLarge}

-- The number of a fault code.
abbrev pub number_of : Code → ℕ
number_of UnknownByte = 1
number_of UnclosedComment = 2
number_of NumberTooLarge = 3
number_of TextTooLong = 4
number_of Memory = 5
number_of TooManyTokens = 6
number_of UnexpectedToken = 10
number_of UnexpectedEnd = 11
number_of NestingTooDeep = 12
number_of ListTooLong = 13
number_of UnknownName = 20
number_of DeclaredTwice = 21
number_of TypeMismatch = 22
number_of NullForNonNull = 23
number_of RegionNotLive = 24
number_of NotOutlived = 25
number_of EffectNotCovered = 26
number_of UniqueShared = 27
number_of NotAPlace = 28
number_of RegionOrKeyMisused = 29
number_of BadMain = 30
number_of OutsideLoop = 31
number_of EmptyVariable = 40
number_of LockedVariable = 41
number_of LoopEmptiesVariable = 42
number_of MissingReturn = 43
number_of TooManyFunctions = 50
number_of FrameTooLarge = 51

-- The fault for lack of memory, which has no position in the text.
abbrev pub memory_fault : Fault
memory_fault = record { code = Memory; line = 0; column = 0 }
