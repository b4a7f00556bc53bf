use Rattle.std.proofs.Common.{◌≡◌, List, ℕ, ◌++◌, refl, subst, inl, inr}
use Rattle.std.specs.Prelude.{OnOk}
use Rattle.cyc_asm.proofs.Tables.{line_here, words_of_ordinary_here, words_of_jump_here}
use Rattle.cyc_asm.proofs.emission.push_reached.Goals as goal

pub push_ordinary-requires-clause-here : goal.push_ordinary-requires-clause-here
push_ordinary-requires-clause-here c = line_here c.args.lines.now c.args.number _ _ c.requires.within c.in-Ordinary.is

pub returns-in-Ordinary : goal.returns-in-Ordinary
returns-in-Ordinary c =
    subst (λ (ws : List ℕ). OnOk c.push_ordinary.result (c.push_ordinary.new.words.items ≡ c.args.words.now.items ++ ws))
    (words_of_ordinary_here c.args.lines.now c.args.number _ _ c.requires.within c.in-Ordinary.is) c.push_ordinary.ensures

pub returns-in-Branch : goal.returns-in-Branch
returns-in-Branch c =
    subst (λ (ws : List ℕ). OnOk c.push_jump.result (c.push_jump.new.words.items ≡ c.args.words.now.items ++ ws))
    (elim c.in-Branch.is [
      | inl branch ↦ words_of_jump_here c.args.lines.now c.args.number _ _ c.requires.within branch.2 refl
      | inr others ↦ elim others [
        | inl jump ↦ words_of_jump_here c.args.lines.now c.args.number _ _ c.requires.within jump.1 refl
        | inr more ↦ elim more [
          | inl call ↦ words_of_jump_here c.args.lines.now c.args.number _ _ c.requires.within call.1 refl
          | inr return ↦ words_of_jump_here c.args.lines.now c.args.number _ _ c.requires.within return refl
        ]
      ]
    ])
    c.push_jump.ensures
