-- The parser of declarations and of programs.
use Rattle.std.specs.Prelude.{ℕ, zero, suc, Bool, true, false, List, [], ◌∷◌, length, Option, Some, None, is_some, Result}
use Rattle.cyc_syntax.specs.declared.tokens.Keyword.TheVariants as words
use Rattle.cyc_syntax.specs.declared.tokens.Sign.TheVariants as signs
use Rattle.cyc_syntax.specs.Symbols.{Place, Terminal, Word, Mark, Symbol}
use Rattle.cyc_syntax.specs.Symbols as terminals
use Rattle.cyc_syntax.specs.Trees.{Named, Struct, WrittenType, Member, Constructor, GlobalValue, Positive, Negative, Byte, NullPointer, Constraint, ParameterList, Void, Listed, Parameters, Declaration, StructType, Exceptions, Global, Function}
use Rattle.cyc_parse.specs.inside.Parsing.{Parser, Refusal, Unexpected, TooLong, ◌>>=◌, ◌>>◌, pure, refuse, inside, choose, advance, take, if_starts, if_sees, is_word, separated, begins_region, regions, sign, word, identifier, region_name, identifier_name}
use Rattle.cyc_parse.specs.inside.Types.{begins_type, written_type, with_pointers, optional_regions}
use Rattle.cyc_parse.specs.inside.Statements.{nested_statements, body}

abbrev pub number_value : Terminal → Option ℕ
number_value (terminals.Number n) = Some n
number_value _ = None

abbrev pub begins_constructor : Terminal → Bool
begins_constructor t = is_some (identifier_name t)

abbrev pub begins_void : Terminal → Bool
begins_void t = is_some (is_word words.Void t)

abbrev pub member : ℕ → Parser Member
member room = written_type room >>= (λ t. identifier room >>= (λ x. pure (record { of_type = t; name = x })))

-- ---- structs and exceptions: each field and constructor ends in a semicolon. The number counts the items that may still follow.

abbrev pub field : ℕ → Parser Member
field room = member room >>= (λ m. sign room signs.Semicolon >> pure m)

-- Reads `(int)` if it comes next; returns true if the exception constructor has an `int`.
abbrev pub has_int : ℕ → Parser Bool
has_int room = if_sees signs.LeftParen (sign room signs.LeftParen >> word (inside room) words.Int >> sign (inside room) signs.RightParen >> pure true) (pure false)

abbrev pub constructor : ℕ → Parser Constructor
constructor room = identifier room >>= (λ c. has_int room >>= (λ b. sign room signs.Semicolon >> pure (record { name = c; has_int = b })))

abbrev pub no_more_of : {A : Type 0} → (Terminal → Bool) → Parser (List A)
no_more_of begins = if_starts begins (refuse TooLong) (pure [])

unfoldable pub more_of : {A : Type 0} → (Terminal → Bool) → Parser A → ℕ → Parser (List A)
more_of begins item zero = no_more_of begins
more_of begins item (suc left) = if_starts begins (item >>= (λ x. more_of begins item left >>= (λ xs. pure (x ∷ xs)))) (pure [])

abbrev pub some_of : {A : Type 0} → (Terminal → Bool) → Parser A → Parser (List A)
some_of begins item = item >>= (λ x. more_of begins item 63 >>= (λ xs. pure (x ∷ xs)))

-- ---- parameters

abbrev pub parameter_list : ℕ → Parser ParameterList
parameter_list room = if_starts begins_void (advance >> pure Void)
    (if_starts begins_type (separated room begins_type (member room) >>= (λ ms. pure (Listed ms))) (pure (Listed [])))

-- parses the regions of an effect, up to the closing brace
abbrev pub effect_regions : ℕ → Parser (List Named)
effect_regions room = if_starts begins_region (regions room) (pure [])

abbrev pub effect : ℕ → Parser (Option (List Named))
effect room = if_sees signs.Semicolon (sign room signs.Semicolon >> sign room signs.LeftBrace >> effect_regions (inside room) >>= (λ rs. sign (inside room) signs.RightBrace >> pure (Some rs))) (pure None)

abbrev pub constraint : ℕ → Parser Constraint
constraint room = region_name room >>= (λ a. sign room signs.Greater >> region_name room >>= (λ b. pure (record { longer = a; shorter = b })))

abbrev pub constraints : ℕ → Parser (List Constraint)
constraints room = if_sees signs.Colon (sign room signs.Colon >> separated room begins_region (constraint room)) (pure [])

abbrev pub parameters : ℕ → Parser Parameters
parameters room = parameter_list room >>= (λ ps. effect room >>= (λ e. constraints room >>= (λ cs. pure (record { list = ps; effect = e; constraints = cs }))))

-- ---- declarations

abbrev pub value_by : ℕ → Option Terminal → Parser GlobalValue
value_by room (Some (terminals.Number n)) = advance >>= (λ p. pure (Positive p n))
value_by room (Some (terminals.Character c)) = advance >>= (λ p. pure (Byte p c))
value_by room (Some (Word words.Null)) = advance >>= (λ p. pure (NullPointer p))
value_by room (Some (Mark signs.Minus)) = advance >>= (λ p. take (inside room) number_value (λ n q. n) >>= (λ n. pure (Negative p n)))
value_by room _ = refuse Unexpected

abbrev pub value : ℕ → Parser GlobalValue
value room = choose (value_by room)

module _ (room : ℕ) where
  abbrev pub here : ℕ
  here = suc room

  abbrev pub global_value : Parser (Option GlobalValue)
  global_value = if_sees signs.Assign (sign here signs.Assign >> value room >>= (λ v. pure (Some v))) (pure None)

  -- parses what follows the type and the name in the declaration of a global variable
  abbrev pub global : WrittenType → Named → Parser Declaration
  global t x = global_value >>= (λ v. sign here signs.Semicolon >> pure (Global t x v))

  abbrev pub function : Option WrittenType → Named → Parser Declaration
  function t f = sign here signs.LeftParen >> parameters room >>= (λ ps. sign room signs.RightParen >> body room (nested_statements room) >>= (λ b. pure (Function t f ps b)))

  -- Parses what follows the type at the start of the declaration of a global variable or function.
  abbrev pub typed : WrittenType → Parser Declaration
  typed t = identifier here >>= (λ x. if_sees signs.LeftParen (function (Some t) x) (global t x))

  abbrev pub struct_fields : Named → List Named → Parser Declaration
  struct_fields s rs = sign here signs.LeftBrace >> some_of begins_type (field room) >>= (λ fs. sign room signs.RightBrace >> sign here signs.Semicolon >> pure (StructType s rs fs))

  -- Parses what follows `struct`: a struct declaration, or another declaration that begins with the struct type.
  abbrev pub struct_or_typed : Place → Parser Declaration
  struct_or_typed p = identifier here >>= (λ s. optional_regions here >>= (λ rs. if_sees signs.LeftBrace (struct_fields s rs) (with_pointers here p (Struct s rs) >>= typed)))

  abbrev pub exceptions : Parser Declaration
  exceptions = word here words.Datatype >> word here words.Exn >> sign here signs.LeftBrace >> some_of begins_constructor (constructor room) >>= (λ cs. sign room signs.RightBrace >> sign here signs.Semicolon >> pure (Exceptions cs))

  abbrev pub declaration_by : Option Terminal → Parser Declaration
  declaration_by (Some (Word words.Struct)) = advance >>= (λ p. struct_or_typed p)
  declaration_by (Some (Word words.Datatype)) = exceptions
  declaration_by (Some (Word words.Void)) = advance >> identifier here >>= (λ f. function None f)
  declaration_by _ = written_type here >>= typed

  unfoldable pub declaration : Parser Declaration
  declaration = choose declaration_by

  unfoldable pub declarations_in : ℕ → Parser (List Declaration)
  declarations_in zero = pure []
  declarations_in (suc turns) = choose (λ t. elim t [
    | None ↦ pure []
    | Some t ↦ declaration >>= (λ d. declarations_in turns >>= (λ ds. pure (d ∷ ds)))
  ])

  abbrev pub program : Parser (List Declaration)
  program = declaration >>= (λ d. (λ ts. declarations_in (length ts) ts) >>= (λ ds. pure (d ∷ ds)))

-- Returns the program that the symbols spell, if any. Symbols nested more than 200 levels deep are rejected.
abbrev pub program_of : List Symbol → Result (List Declaration × List Symbol) Refusal
program_of ts = program 200 ts
