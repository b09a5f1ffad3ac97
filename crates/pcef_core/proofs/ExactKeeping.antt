-- What a session keeps is exact where its parts are as its calls say.
use Rattle.std.proofs.Common.{◌≡◌, ◌+◌, ℕ, List, [], ◌∷◌, refl, subst, sym}
use Rattle.std.specs.List.{AllByRecursion}
use Rattle.pcef_bearer.specs.Bindings.{Binding}
use Rattle.pcef_bearer.specs.BindingSteps.{IsBinding}
use Rattle.pcef_bearer.specs.Standing.{binding_of}
use Rattle.pcef_model.specs.Entries.{Journal}
use Rattle.pcef_model.specs.Journals.{counted, gen, now, reported}
use Rattle.pcef_model.specs.Lawful.{Lawful}
use Rattle.pcef_model.specs.Setting.{Setting}
use Rattle.pcef_model.proofs.LawfulRows.{rows_have_verdicts}
use Rattle.pcef_session.proofs.BearerLaws.{stands_on, sums_are}
use Rattle.pcef_session.specs.Agreement.{AreKept, KeyAgrees, KeysAgree}
use Rattle.pcef_session.specs.Shown.{Shows}
use Rattle.pcef_table.specs.declared.entry.Source.{Source}
use Rattle.pcef_table.specs.Tables.{TableValue}
use Rattle.pcef_usage.specs.declared.usage.KeyState.{KeyState}
use Rattle.pcef_core.specs.Keeping.{SessionIsExact}

reported_of : (p : Setting) (j : Journal) (keys : List KeyState) → AllByRecursion (KeyAgrees p j) keys → AllByRecursion (λ (k : KeyState). k.reported ≡ reported j k.key) keys
reported_of p j [] agree = tt
reported_of p j (k ∷ keys) agree = (agree.0.reported_is, reported_of p j keys agree.1)

octets_of : (p : Setting) (j : Journal) (keys : List KeyState) → AllByRecursion (KeyAgrees p j) keys
    → AllByRecursion (λ (k : KeyState). k.reported + k.unreported ≡ counted p j k.key) keys
octets_of p j [] agree = tt
octets_of p j (k ∷ keys) agree = (agree.0.counted_is, octets_of p j keys agree.1)

exact_binding : (p : Setting) (j : Journal) (rules : List (List ℕ × Source)) (keys : List KeyState) (t : TableValue) → Lawful p j → AreKept p.catalog rules (now p j).rules
    → IsBinding (binding_of p (now p j)) → KeysAgree p j keys → Shows p j (gen j) t
    → SessionIsExact p (record { journal = j; rules = rules; binding = binding_of p (now p j); keys = keys; table = t })
exact_binding p j rules keys t lawful active is agree shows = record {
  lawful = lawful;
  rules_are = active;
  binding_is = refl;
  names = is.names;
  bound = stands_on p j;
  shared = is.pairs;
  sums = sums_are p j lawful;
  within_up = is.within_up;
  within_down = is.within_down;
  keys_are = agree.keys_are;
  reported_octets = reported_of p j keys agree.usage_is;
  octets = octets_of p j keys agree.usage_is;
  judged = rows_have_verdicts p j lawful;
  table_is = shows;
}

pub exact : (p : Setting) (j k : Journal) (rules : List (List ℕ × Source)) (v : Binding) (keys : List KeyState) (t : TableValue) → k ≡ j → Lawful p j → AreKept p.catalog rules (now p j).rules
    → v ≡ binding_of p (now p j) → IsBinding v → KeysAgree p j keys → Shows p j (gen j) t
    → SessionIsExact p (record { journal = k; rules = rules; binding = v; keys = keys; table = t })
exact p j k rules v keys t same_journal lawful active standing is agree shows =
    let own : IsBinding (binding_of p (now p j)) = subst IsBinding standing is in
    subst (λ (i : Journal). SessionIsExact p (record { journal = i; rules = rules; binding = v; keys = keys; table = t })) (sym same_journal)
    (subst (λ (b : Binding). SessionIsExact p (record { journal = j; rules = rules; binding = b; keys = keys; table = t })) (sym standing)
    (exact_binding p j rules keys t lawful active own agree shows))
