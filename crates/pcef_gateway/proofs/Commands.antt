-- Commands that are given one after the other.
use Rattle.std.proofs.Common.{◌≡◌, ◌∙◌, ◌+◌, true, false, List, [], ◌∷◌, ◌++◌, length, append-nil, append_assoc, refl, ap, sym, subst, arith}
use Rattle.std.specs.Prelude.{OnOk, Result, Ok, Err}
use Rattle.std.proofs.lemmas.List.Elements.{All-nil, All-push}
use Rattle.pcef_model.specs.declared.answer.Accepted.{Accepted}
use Rattle.pcef_model.specs.declared.answer.Refusal.{Refusal}
use Rattle.pcef_model.specs.declared.command.Command.{Command}
use Rattle.pcef_lock.specs.Desks.{listed, listed_by}
use Rattle.pcef_gateway.specs.Commanding.{FoundMemory, HaveAnswers, changing}
use Rattle.pcef_gateway.proofs.Handing.{length_more}

listed_is : (a : Result Accepted Refusal) (c : Command) (cs : List Command) → listed a c cs ≡ cs ++ listed a c []
listed_is (Err r) c cs = sym (append-nil cs)
listed_is (Ok a) c cs = by_change a.unchanged where
  by_change : (b : _) → listed_by b c cs ≡ cs ++ listed_by b c []
  by_change true = sym (append-nil cs)
  by_change false = refl

changing_more : (cs : List Command) (answers : List (Result Accepted Refusal)) (c : Command) (a : Result Accepted Refusal) → length answers ≡ length cs
    → changing (cs ++ c ∷ []) (answers ++ a ∷ []) ≡ changing cs answers ++ listed a c []
unfolding changing
changing_more [] [] c a same = append-nil (listed a c [])
changing_more [] (b ∷ answers) c a same = absurd (omega (arith, same))
changing_more (d ∷ cs) [] c a same = absurd (omega (arith, same))
changing_more (d ∷ cs) (b ∷ answers) c a same =
    ap (λ xs. listed b d [] ++ xs) (changing_more cs answers c a (omega (arith, same))) ∙ sym (append_assoc (listed b d []) (changing cs answers) (listed a c []))

-- one more command was answered
more : (first now new : List Command) (cs : List Command) (answers : List (Result Accepted Refusal)) (c : Command) (a : Result Accepted Refusal) → length answers ≡ length cs
    → now ≡ first ++ changing cs answers → new ≡ listed a c now → new ≡ first ++ changing (cs ++ c ∷ []) (answers ++ a ∷ [])
more first now new cs answers c a same so_far is =
    is ∙ listed_is a c now ∙ ap (λ xs. xs ++ listed a c []) so_far ∙ append_assoc first (changing cs answers) (listed a c [])
    ∙ ap (λ xs. first ++ xs) (sym (changing_more cs answers c a same))

-- where its answer was kept
pub given : {E : Type 0} (r : Result (Unit {0}) E) (first now new cs : List Command) (before after : List (Result Accepted Refusal)) (c : Command) (a : Result Accepted Refusal)
    → OnOk r (after ≡ before ++ a ∷ []) → FoundMemory a → new ≡ listed a c now → HaveAnswers first cs now before → OnOk r (HaveAnswers first (cs ++ c ∷ []) new after)
given (Ok done) first now new cs before after c a put found is have =
    subst (λ (xs : List (Result Accepted Refusal)). HaveAnswers first (cs ++ c ∷ []) new xs) (sym put) (record {
      many = length_more before a ∙ ap (λ n. n + 1) have.many ∙ sym (length_more cs c);
      memory = All-push FoundMemory before a have.memory found;
      listed_are = more first now new cs before c a have.many have.listed_are is;
    })
given (Err e) first now new cs before after c a put found is have = tt

pub none_given : (first : List Command) (none : List (Result Accepted Refusal)) → none ≡ [] → HaveAnswers first [] first none
unfolding changing
none_given first none is =
    subst (λ (xs : List (Result Accepted Refusal)). HaveAnswers first [] first xs) (sym is)
    (record { many = refl; memory = All-nil FoundMemory; listed_are = sym (append-nil first) })
