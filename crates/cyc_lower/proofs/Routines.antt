-- The functions and the globals of a program are lowered one after the other.
use Rattle.std.proofs.Common.{◌≡◌, ℕ, suc, ◌+◌, ◌<◌, ◌≤◌, List, [], ◌∷◌, ◌++◌, ◌-◌, length, get_or, map, take, min, Option, Some, sym, ap, subst, ◌∙◌, arith}
use Rattle.cyc_words.specs.declared.fault.Code.{Code}
use Rattle.cyc_words.specs.declared.fault.Code.TheVariants.{TooManyFunctions}
use Rattle.cyc_words.specs.declared.fault.Fault.{Fault}
use Rattle.cyc_words.proofs.Lists.{take_read, map_last}
use Rattle.cyc_words.proofs.Items.{slice_get-map_read}
use Rattle.cyc_types.specs.declared.typed.TypedTree.{TypedTree}
use Rattle.cyc_types.specs.declared.typed.Function.{Function as FunctionCode}
use Rattle.cyc_types.specs.TypedTrees.{StructType, Function, Program}
use Rattle.cyc_types.specs.TypedTreeView.{view_function, view_program}
use Rattle.cyc_meaning.specs.FrameCount.{kept_by_items, frame_count, words_of_all}
use Rattle.cyc_plain.specs.declared.instruction.Instruction.{Instruction}
use Rattle.cyc_plain.specs.declared.instruction.Instruction.TheVariants.{Finish}
use Rattle.cyc_lower_proof.specs.inside.Slots.{starts_from}
use Rattle.cyc_lower_proof.specs.inside.ValueCode.{tag_slot, first_temporary, slot_types, blocks}
use Rattle.cyc_lower_proof.specs.inside.ControlCode.{outside_loops}
use Rattle.cyc_lower_proof.specs.inside.Lowering.{items_code, farthest, blocks_kept, with_blocks, finished_code, function_code, raises_of, body_code, starts_with, AreTurned}
use Rattle.cyc_meaning.specs.Sizes.{max_functions, HasTooMany}
use Rattle.cyc_sizes.specs.inside.Needs.{most_frame_count}
use Rattle.cyc_lower_proof.specs.inside.Bounds.{IsClose}
use Rattle.cyc_lower.specs.inside.Emission.{most_locals}
use Rattle.cyc_lower_proof.proofs.slots.Slots.{slots-few}
use Rattle.cyc_lower_proof.proofs.emission.Alike.{same_length, turned_alike}
use Rattle.cyc_lower_proof.proofs.emission.Lengths.{body_alike}
use Rattle.cyc_lower_proof.proofs.emission.Blocks.{some_blocks}

-- If the number of words of a frame is within the limit, the frame has space for the slots of the locals.
pub few_locals : (f : FunctionCode) → frame_count (view_function f) ≤ most_frame_count
    → (words_of_all (view_function f).parameters ≤ most_frame_count) × (first_temporary (view_function f) + kept_by_items (view_function f).body ≤ most_locals)
few_locals f small = (omega (arith, small), omega (arith, small, slots-few (view_function f)))

-- The body of a function is emitted with provisional jump targets far after its code, which stand for the blocks that raise
-- exceptions. Once the provisional targets are replaced, the body's jumps go to the blocks after the body that raise exceptions.
-- The blocks that raise exceptions come after a return. The blocks after the last one that is a jump target are removed.
pub function_made : (structs : List StructType) (globals : List ℕ) (scopes : Option ℕ) (h : Function) (locals : List ℕ) (slot free far raises end : ℕ) (count kept : ℕ) (first body ended all code : List Instruction) → locals ≡ starts_from 0 (slot_types h) → slot ≡ tag_slot h → free ≡ first_temporary h
    → first ≡ items_code (record { locals = locals; tag_slot = slot; structs = structs; raises = far; counters = []; globals = globals; scopes = scopes }) h.body 0 outside_loops free → raises ≡ length first
    → AreTurned far raises first body → IsClose structs globals scopes h → raises + 7 ≤ far
    → count ≡ farthest body - raises → kept ≡ blocks_kept (min count 6) → ended ≡ body ++ Finish slot ∷ [] → end ≡ length ended + kept → all ≡ ended ++ blocks slot → code ≡ take end all → code ≡ function_code structs globals scopes h
function_made structs globals scopes h locals slot free far raises end count kept first body ended all code locals_is slot_is free_is first_is raises_is turned_so close following count_is kept_is ended_is end_is all_is code_is =
    let made : first ≡ body_code (starts_with far structs globals scopes h) h =
    first_is ∙ (λ i. items_code (record { locals = locals_is i; tag_slot = slot_is i; structs = structs; raises = far; counters = []; globals = globals; scopes = scopes }) h.body 0 outside_loops (free_is i)) in
    let known : raises ≡ raises_of structs globals scopes h = raises_is ∙ ap (λ (l : List Instruction). length l) made ∙ same_length (body_alike structs globals scopes h far 0) in
    let farther = ap (λ (n : ℕ). farthest (body_code (starts_with n structs globals scopes h) h)) known in
    let body_is : body ≡ body_code (starts_with raises structs globals scopes h) h =
    turned_alike far raises (body_code (starts_with far structs globals scopes h) h) body (body_code (starts_with raises structs globals scopes h) h) (omega (arith, close, following, known, farther))
    (body_alike structs globals scopes h far raises) (subst (λ (l : List Instruction). AreTurned far raises l body) made turned_so) in
    some_blocks body ended all code slot count kept end ended_is all_is kept_is end_is code_is
    ∙ ap (λ (n : ℕ). with_blocks body slot (blocks_kept n)) count_is
    ∙ ap (λ (l : List Instruction). finished_code l raises slot) body_is
    ∙ (λ i. finished_code (body_code (starts_with (known i) structs globals scopes h) h) (known i) (slot_is i))

-- ---- lists that are lowered element by element

-- Lowering the next element of a list of tree nodes extends the list of the lowered elements by one.
pub one_more_mapped : {A B C D : Type 0} (f : A → D) (g : C → D) (view : B → C) (made new : List A) (xs : List B) (i : ℕ) (a : A) (x : B) → i < length xs → x ≡ get_or xs i x → new ≡ made ++ a ∷ []
    → f a ≡ g (view x) → map f made ≡ map g (map view (take i xs)) → map f new ≡ map g (map view (take (i + 1) xs))
one_more_mapped {A} {B} {C} {D} f g view made new xs i a x inside at is one made_is =
    let next : suc i ≡ i + 1 = omega arith in
    ap (λ (l : List A). map f l) is
    ∙ map_last f made a
    ∙ ap (λ (l : List D). l ++ f a ∷ []) made_is
    ∙ ap (λ (d : D). map g (map view (take i xs)) ++ d ∷ []) one
    ∙ sym (map_last g (map view (take i xs)) (view x))
    ∙ ap (λ (l : List C). map g l) (sym (map_last view (take i xs) x))
    ∙ ap (λ (l : List B). map g (map view l)) (sym (take_read xs i x inside at))
    ∙ ap (λ (n : ℕ). map g (map view (take n xs))) next

-- ---- more functions than the limit

fault_is : (f : Fault) (c : Code) (l k : ℕ) → f.code ≡ c → f.line ≡ l → f.column ≡ k → f ≡ record { code = c; line = l; column = k }
fault_is f c l k a b d =
    ap (λ (x : Code). record { code = x; line = f.line; column = f.column }) a
    ∙ ap (λ (x : ℕ). record { code = c; line = x; column = f.column }) b
    ∙ ap (λ (x : ℕ). record { code = c; line = l; column = x }) d

pub too_many_reported : (t : TypedTree) (x : FunctionCode) (f : Fault) → max_functions < length t.functions.items → x ≡ get_or t.functions.items max_functions x
    → f.code ≡ TooManyFunctions → f.line ≡ x.span.line → f.column ≡ x.span.column → HasTooMany (view_program t) f
too_many_reported t x f more at a b d = (view_function x, slice_get-map_read view_function t.functions.items max_functions x more at, fault_is f TooManyFunctions x.span.line x.span.column a b d)

pub one_too_many : (p : Program) (f g : Fault) → HasTooMany p f → HasTooMany p g → f ≡ g
one_too_many p f g (h, e, a) (k, d, b) =
    let same : h ≡ k = let s : Some h ≡ Some k = sym e ∙ d in cc in
    let fault : Function → Fault = λ x. record { code = TooManyFunctions; line = x.place.line; column = x.place.column } in
    a ∙ ap fault same ∙ sym b
