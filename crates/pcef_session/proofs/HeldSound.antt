-- What always holds of all that a session keeps.
use Rattle.std.proofs.Common.{◌≤◌, ◌+◌, ℕ, Bool, true, false, [], ◌∷◌, length, ap, arith, inl, inr}
use Rattle.std.proofs.lemmas.Bool.{cases_Bool}
use Rattle.pcef_model.specs.declared.entry.Entry.TheVariants as entry
use Rattle.pcef_model.specs.Entries.{Journal, commands}
use Rattle.pcef_model.specs.Journals.{gen}
use Rattle.pcef_model.specs.Commands.{is_table}
use Rattle.pcef_model.proofs.Growth.{tables_of_other, tables_of_table}
use Rattle.pcef_session.specs.private.Parts.{Agrees, Held}
use Rattle.pcef_session.specs.private.Soundness.{IsSound, ends_met, held_of}
use Rattle.pcef_session.specs.declared.state.SessionState.TheInside.{Inside}

pub record IsSoundHeld (v : Held) : Type 0 where
  pub agrees : Agrees v.setting v.journal v.parts
  pub few_commands : length (commands v.journal) ≤ v.setting.commands + 2
  pub most_commands : v.setting.commands ≤ 1000000
  pub few_rules : length v.parts.rules ≤ 64
  pub few_keys : length v.parts.keys ≤ 8

at_most_two : (n m : ℕ) (closed terminated : Bool) → n ≤ m + ends_met closed terminated → n ≤ m + 2
at_most_two n m true true few = omega (arith, few)
at_most_two n m true false few = omega (arith, few)
at_most_two n m false true few = omega (arith, few)
at_most_two n m false false few = omega (arith, few)

pub held_sound : (s : Inside) → IsSound s → IsSoundHeld (held_of s)
held_sound s sound = record {
  agrees = sound.agrees;
  few_commands = at_most_two (length (commands s.counted.journal)) s.profile.commands s.closed s.terminated sound.limited.few_commands;
  most_commands = sound.limited.most_commands;
  few_rules = sound.small.few_rules;
  few_keys = sound.small.few_keys;
}

-- there are at most as many generations as commands
pub few_generations : (j : Journal) → gen j ≤ length (commands j)
few_generations [] = omega arith
few_generations (entry.Row r ∷ j) = few_generations j
few_generations (entry.Report r ∷ j) = few_generations j
few_generations (entry.Attach w ∷ j) = few_generations j
few_generations (entry.Leave w ∷ j) = few_generations j
few_generations (entry.Command c ∷ j) =
    let rest = few_generations j in
    elim (cases_Bool (is_table c)) [
      | inl is ↦ omega (arith, rest, ap length (tables_of_table j c is))
      | inr isnt ↦ omega (arith, rest, ap length (tables_of_other j c isnt))
    ]
