-- What callers see of what is kept of answers.
use Rattle.std.specs.Prelude.{option_map}
use Rattle.pcef_gx_dialogue.specs.Repeats.{Answering, LastRar}
use Rattle.pcef_gx_dialogue.specs.declared.responder.Kept.{Kept}
use Rattle.pcef_gx_dialogue.specs.declared.responder.Responder.TheInside.{Inside}

abbrev pub last_of : Kept → LastRar
last_of k = record { end_to_end = k.end_to_end; origin = option_map (λ o. o.items) k.origin; answer = k.answer }

abbrev pub answering_of : Inside → Answering
answering_of r = record { speaker = r.party; last = option_map last_of r.last }
