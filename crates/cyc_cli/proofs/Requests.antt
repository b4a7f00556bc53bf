-- Lemmas: the values that the command-line parser returns determine the request that a command line makes.
use Rattle.std.proofs.Common.{◌≡◌, ℕ, Bool, List, Option, None, Some, Result, Ok, Err, codes, sym, subst, ◌∙◌}
use Rattle.std.specs.Prelude.{Box, IfOk, IfSome, option_map}
use Rattle.std.specs.Box.{box_value}
use Rattle.std.specs.Str.Parse.{digits_value}
use Rattle.clap.proofs.WalkLemmas.{first_value-rows}
use Rattle.clap.specs.Walk.{first_of}
use Rattle.clap.specs.Words.{App, HasMatchesOf, Row, Text, first_value, rows_of, subcommand_name_of, subcommand_rows, subcommand_rows_of}
use Rattle.clap.specs.declared.parser.matches.ArgMatches.{ArgMatches}
use Rattle.clap.specs.declared.parser.matches.ArgMatches.TheViews.{out-ArgMatches, out-SubCommand}
use Rattle.clap.specs.declared.parser.matches.Found.{Found}
use Rattle.clap.specs.declared.parser.matches.SubCommand.{SubCommand}
use Rattle.cyc_cli.specs.inside.Limits.{Given}
use Rattle.cyc_cli.specs.inside.Request.{AreLimitsOf, IsAskedOf, IsCodeOf, IsNumberIfGiven, IsRequestOf, AreCapsOf, IsAutoOf, IsFlagOf, IsStoreOf}
use Rattle.cyc_cli.specs.declared.arguments.Request.{Request}
use Rattle.cyc_cli.specs.declared.arguments.Request.TheVariants.{Check, Compile, Run, Disassemble, Explain, Describe, Bound, Format, Pack}

-- ---- the request of a command, by its name

pub renamed : {E : Type 0} (name word : List ℕ) (given : List ℕ → Option (List ℕ)) (r : Result Request E) → name ≡ word → IfOk r (IsRequestOf word given) → IfOk r (IsRequestOf name given)
renamed name word given r named is = subst (λ (n : List ℕ). IfOk r (IsRequestOf n given)) (sym named) is

-- ---- the results of the parser, by its rows

limits_by_rows : (f : Found) (limits : Given) → AreLimitsOf (first_value f) limits → AreLimitsOf (λ id. first_of id (rows_of f)) limits
limits_by_rows f limits (pages, calls) = (
  subst (λ (o : Option (List ℕ)). IsNumberIfGiven o limits.pages) (first_value-rows f (codes "pages")) pages,
  subst (λ (o : Option (List ℕ)). IsNumberIfGiven o limits.calls) (first_value-rows f (codes "calls")) calls,
)

caps_by_rows : (f : Found) (caps : Given) → AreCapsOf (first_value f) caps → AreCapsOf (λ id. first_of id (rows_of f)) caps
caps_by_rows f caps (pages, calls) = (
  subst (λ (o : Option (List ℕ)). IsNumberIfGiven o caps.pages) (first_value-rows f (codes "at-most-pages")) pages,
  subst (λ (o : Option (List ℕ)). IsNumberIfGiven o caps.calls) (first_value-rows f (codes "at-most-calls")) calls,
)

flag_by_rows : (f : Found) (flag : Bool) → IsFlagOf (first_value f (codes "json")) flag → IsFlagOf (first_of (codes "json") (rows_of f)) flag
flag_by_rows f flag is = subst (λ (o : Option (List ℕ)). IsFlagOf o flag) (first_value-rows f (codes "json")) is

by_rows : (name : Text) (f : Found) (request : Request) → IsRequestOf name (first_value f) request → IsRequestOf name (λ id. first_of id (rows_of f)) request
by_rows name f (Check source json) (named, s, j) = (named, sym (first_value-rows f (codes "source")) ∙ s, flag_by_rows f json j)
by_rows name f (Compile source image limits auto places emit json) (named, s, i, l, a, p, e, j) = (
  named,
  sym (first_value-rows f (codes "source")) ∙ s,
  sym (first_value-rows f (codes "image")) ∙ i,
  limits_by_rows f limits l,
  subst (λ (o : Option (List ℕ)). IsAutoOf o limits auto) (first_value-rows f (codes "limits")) a,
  sym (first_value-rows f (codes "places")) ∙ p,
  sym (first_value-rows f (codes "emit")) ∙ e,
  flag_by_rows f json j,
)
by_rows name f (Run file source store limits caps budget report peaks places) (named, i, st, l, m, n, least, most, r, k, p) = (
  named,
  sym (first_value-rows f (codes "file")) ∙ i,
  subst (λ (o : Option (List ℕ)). IsStoreOf o store) (first_value-rows f (codes "store")) st,
  limits_by_rows f limits l,
  caps_by_rows f caps m,
  subst (λ (o : Option (List ℕ)). IfSome o (λ text. budget ≡ digits_value 10 text)) (first_value-rows f (codes "steps")) n,
  least,
  most,
  sym (first_value-rows f (codes "report")) ∙ r,
  subst (λ (o : Option (List ℕ)). IsFlagOf o peaks) (first_value-rows f (codes "peaks")) k,
  sym (first_value-rows f (codes "places")) ∙ p,
)
by_rows name f (Disassemble image most places) (named, i, m, p) = (
  named,
  sym (first_value-rows f (codes "image")) ∙ i,
  subst (λ (o : Option (List ℕ)). IsNumberIfGiven o most) (first_value-rows f (codes "at-most")) m,
  sym (first_value-rows f (codes "places")) ∙ p,
)
by_rows name f (Explain code) (named, c) = (named, subst (λ (o : Option (List ℕ)). IsCodeOf o code) (first_value-rows f (codes "code")) c)
by_rows name f (Describe image places) (named, i, p) = (named, sym (first_value-rows f (codes "image")) ∙ i, sym (first_value-rows f (codes "places")) ∙ p)
by_rows name f (Bound source) (named, s) = (named, sym (first_value-rows f (codes "source")) ∙ s)
by_rows name f (Format source output check) (named, s, o, c) = (
  named,
  sym (first_value-rows f (codes "source")) ∙ s,
  sym (first_value-rows f (codes "output")) ∙ o,
  subst (λ (b : Option (List ℕ)). IsFlagOf b check) (first_value-rows f (codes "check")) c,
)
by_rows name f (Pack text) (named, t) = (named, sym (first_value-rows f (codes "text")) ∙ t)

-- The subcommand that the command-line parser recognized: its name, and its table of option values.
entered : {Z : Type 0} (o : Option (Box SubCommand Z)) (name : Text) (rows : List Row)
    → option_map (λ b. (out-SubCommand (box_value b)).name.now) o ≡ Some name → option_map (λ p. p.1) (subcommand_rows o) ≡ Some rows → subcommand_rows o ≡ Some (name, rows)
entered None name rows named has = cc
entered (Some b) name rows named has = cc

pub request_is_asked : {E : Type 0} (program : App) (words : List Text) (m : ArgMatches) (f : Found) (name : Text) (r : Result Request E) → HasMatchesOf program words m
    → subcommand_name_of m ≡ Some name → option_map (λ p. p.1) (subcommand_rows_of m) ≡ Some (rows_of f) → IfOk r (IsRequestOf name (first_value f))
    → IfOk r (IsAskedOf program words)
request_is_asked program words m f name (Ok request) has named rows is = λ simple. (
  (name, rows_of f),
  sym (has simple).1 ∙ entered (out-ArgMatches m).subcommand name (rows_of f) named rows,
  by_rows name f request is,
)
request_is_asked program words m f name (Err e) has named rows is = tt
