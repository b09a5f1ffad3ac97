-- The rules of the newest generation after a command, whether or not it makes one.
use Rattle.std.proofs.Common.{◌≡◌, ◌∙◌, ◌∷◌, false, sym, ap, inl, inr}
use Rattle.std.proofs.lemmas.Bool.{cases_Bool}
use Rattle.pcef_model.specs.declared.command.Command.{Command}
use Rattle.pcef_model.specs.declared.entry.Entry.TheVariants as entry
use Rattle.pcef_model.specs.Setting.{Setting}
use Rattle.pcef_model.specs.Commands.{is_table}
use Rattle.pcef_model.specs.Generations.{Generation, made_by, rules_after}
use Rattle.pcef_model.specs.Entries.{Journal}
use Rattle.pcef_model.specs.Journals.{now}
use Rattle.pcef_model.specs.Reports.{after_command}
use Rattle.pcef_model.proofs.Growth.{now_after_table, tables_of_other}
use Rattle.pcef_model.proofs.AfterEvents.{now_after}
use Rattle.pcef_model.proofs.RulesAfter.{other_leaves}

-- a command that makes no generation leaves the newest one
pub now_after_other : (p : Setting) (j : Journal) (c : Command) → is_table c ≡ false → now p (entry.Command c ∷ j) ≡ now p j
now_after_other p j c isnt = ap (made_by p) (tables_of_other j c isnt)

pub rules_now : (p : Setting) (j : Journal) (c : Command) → (now p (entry.Command c ∷ j)).rules ≡ rules_after p (now p j) c
rules_now p j c =
    elim (cases_Bool (is_table c)) [
      | inl is ↦ ap (λ (g : Generation). g.rules) (now_after_table p j c is)
      | inr isnt ↦ ap (λ (g : Generation). g.rules) (now_after_other p j c isnt) ∙ sym (other_leaves p (now p j) c isnt)
    ]

pub rules_then : (p : Setting) (j : Journal) (c : Command) → (now p (after_command p j c)).rules ≡ rules_after p (now p j) c
rules_then p j c = ap (λ (g : Generation). g.rules) (now_after p j c) ∙ rules_now p j c
