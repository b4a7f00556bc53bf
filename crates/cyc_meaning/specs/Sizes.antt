-- THE SIZE OF A PROGRAM, and a bound on the length of its image's text (machine code). The size of a program and the bound on its image's
-- text are defined on the source only, independently of the compiler's passes. The numbers in the bound are this project's own choice.
use Rattle.std.specs.Prelude.{◌≡◌, ℕ, Some, slice_get}
use Rattle.cyc_words.specs.declared.fault.Code.TheVariants.{TooManyFunctions}
use Rattle.cyc_words.specs.declared.fault.Fault.{Fault}
use Rattle.cyc_types.specs.TypedTrees.{Function, Program}

-- The maximal number of functions of a program.
abbrev pub max_functions : ℕ
max_functions = 4096

-- The maximal number of words of a function's frame.
abbrev pub max_frame_words : ℕ
max_frame_words = 256

-- The maximal number of machine-code words in an image for each token of the program.
abbrev pub size_per_weight : ℕ
size_per_weight = 100

-- The maximal number of words of the start code in an image's machine code.
abbrev pub max_start_words : ℕ
max_start_words = 7

-- Says that the program has more functions than permitted, and that the fault is at the name of the first excess function.
abbrev pub HasTooMany : Program → Fault → Type 0
HasTooMany p f = (h : Function) × (slice_get p.functions max_functions ≡ Some h)
    × (f ≡ record { code = TooManyFunctions; line = h.place.line; column = h.place.column })
