-- Examples of needs (bounds on temporary words of the frame) and of frame counts, each proved by computation; each comment shows the sum.
use Rattle.std.proofs.Common.{◌≡◌, ℕ, zero, suc, List, [], ◌∷◌, None, refl}
use Rattle.cyc_types.specs.declared.region.Region.TheVariants.{Heap}
use Rattle.cyc_types.specs.declared.typed.PointerOperator.TheVariants as pointers
use Rattle.cyc_types.specs.declared.typed.UnaryOperator.TheVariants as unary
use Rattle.cyc_types.specs.Types.{Ty, Int, Char, Handle, Key}
use Rattle.cyc_types.specs.TypedTrees.{Number, NullPointer, Counter, Load, AddressOf, AddressOfCell, NumberOfElements, FreeKey, Unary, OnHeap, AsUnique, ByHandle, CellSide, Swap, Throw, NoClauses, DeclareRegion, OpenRegion}
use Rattle.cyc_types.specs.TypedTrees as typed
use Rattle.cyc_meaning.specs.FrameCount.{expression_need, statement_need, frame_count}
use Rattle.cyc_meaning.proofs.ExampleTrees.{here, local, assign, procedure, at, fat, own, convert, variable, move, target, element, put, set, new, array, apply, side, try_to, case}

-- ---- expressions

-- `a = 1` needs temporary words for a pointer to the assigned variable, for the value, and for the result: 3 + 1 + 1
of_assignment : expression_need (assign 0 (Number 1)) ≡ 5
of_assignment = refl

-- `*p` for a thin pointer needs one temporary word for the pointer and one for the int; a cell that is only read adds nothing.
of_read : expression_need (Load (target at (variable 0 at))) ≡ 2
of_read = refl

-- `p[i]` needs 3 + 1 + 1 temporary words: the fat pointer, the index, and the int read.
of_element : expression_need (Load (element (variable 0 fat) (local 1))) ≡ 5
of_element = refl

-- `p[i] = 1`: a pointer to the assigned cell needs 3 temporary words beside p and i: 3 + 1 + 3, more than the 3 + 1 + 1 of the assignment
of_element_assigned : expression_need (put (element (variable 0 fat) (local 1)) (Number 1)) ≡ 7
of_element_assigned = refl

-- `&x` needs 3 + 1 temporary words, and `&p[i]` needs 3 + 1 + 3.
of_address : expression_need (AddressOf (typed.Local here 0) at) ≡ 4
of_address = refl

of_element_address : expression_need (AddressOfCell (element (variable 0 fat) (local 1)) at) ≡ 7
of_element_address = refl

-- `p == NULL` for a fat pointer needs 3 + 1 + 1 temporary words.
of_null_test : expression_need (apply (variable 0 fat) pointers.FatIsNull NullPointer Int) ≡ 5
of_null_test = refl

-- `NULL == p[i]` for a cell with an int pointer needs one temporary word for NULL, plus the temporary words that `p[i]` needs: 1 + 5
of_null_first : expression_need (apply NullPointer pointers.NullIs (Load (element (variable 0 fat) (local 1))) Int) ≡ 6
of_null_first = refl

-- `p + 1` needs 3 + 1 + 3 temporary words, and `numelts(p)` needs 3 + 1.
of_sum : expression_need (apply (variable 0 fat) pointers.AddFat (Number 1) fat) ≡ 7
of_sum = refl

of_count : expression_need (NumberOfElements (variable 0 fat)) ≡ 4
of_count = refl

-- `q = p` with q fat and p thin needs 3 + 3 + 3 temporary words; a converted operand counts the larger of its two sizes.
of_converted : expression_need (set 0 fat (convert at fat (variable 1 at))) ≡ 9
of_converted = refl

-- `new 1` needs 1 + 1 temporary words; `rnew(h) 1` and `rnew(unique_region) 1` need 1 + 1 + 1.
of_new : expression_need (new OnHeap at (Number 1)) ≡ 2
of_new = refl

of_new_by_handle : expression_need (new (ByHandle (variable 0 (Handle Heap))) at (Number 1)) ≡ 3
of_new_by_handle = refl

of_new_unique : expression_need (new AsUnique own (Number 1)) ≡ 3
of_new_unique = refl

-- `new {for i < n : i}` needs 4 temporary words for the `for`, 1 for the element and 3 for the pointer, and one more after a handle.
of_array : expression_need (array OnHeap fat (local 0) (Counter 0)) ≡ 8
of_array = refl

of_array_by_handle : expression_need (array (ByHandle (variable 1 (Handle Heap))) fat (local 0) (Counter 0)) ≡ 9
of_array_by_handle = refl

-- `char(1)` needs 1 + 1 temporary words; a char used as an int needs only the words that the char needs.
of_low_byte : expression_need (Unary unary.LowByte (Number 1)) ≡ 2
of_low_byte = refl

of_char_as_int : expression_need (Unary unary.Widen (variable 0 Char)) ≡ 1
of_char_as_int = refl

-- `free_ukey(k)` needs one temporary word for the key, and none for a value.
of_free_key : expression_need (FreeKey (move 0 (Key Heap))) ≡ 1
of_free_key = refl

-- `p[i] :=: x` needs the larger of 3 + 3 temporary words for both operands and 3 + 1 + 3 for the left operand with p and i.
of_swap : statement_need (Swap (CellSide (element (variable 0 fat) (local 1))) (side 2 Int)) ≡ 7
of_swap = refl

-- `x :=: p[i]` evaluates its right operand after the left one, so it needs 3 + 3 + 1 + 3 temporary words.
of_swap_right : statement_need (Swap (side 2 Int) (CellSide (element (variable 0 fat) (local 1)))) ≡ 10
of_swap_right = refl

-- ---- functions

-- Returns a list of a given number of int types.
abbrev ints : ℕ → List Ty
ints zero = []
ints (suc n) = Int ∷ ints n

-- A function that only declares 232 int locals has a frame of 256 words.
of_ints : frame_count (record (procedure [] []) { locals = ints 232 }) ≡ 256
of_ints = refl

-- `region<`a> h;` counts two words for its handle, so the frame has 24 + 1 + 1 words; `region<`k> h = open(k);` counts one: 24 + 1
of_lexical : frame_count (record (procedure [] (DeclareRegion 1 0 ∷ [])) { locals = Handle Heap ∷ [] }) ≡ 26
of_lexical = refl

of_opened : frame_count (record (procedure [] (OpenRegion 1 1 here 0 ∷ [])) { locals = Handle Heap ∷ [] }) ≡ 25
of_opened = refl

-- `try throw new A; catch { case &A: try ; catch { default: ; } }` contains two `try`, each counting six words: 24 + 12
of_tries : frame_count (procedure [] (try_to (Throw 5 None) (case 5 (try_to typed.Empty (typed.Default 2 typed.NoItems) ∷ []) NoClauses) ∷ [])) ≡ 36
of_tries = refl
