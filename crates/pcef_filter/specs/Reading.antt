-- The grammar of token lists once more, as functions from the tokens to the filter or its fault. They
-- only serve the proof of the reader: they are proved equal to the grammar and to the faults' places.
use Rattle.std.specs.Prelude.{List, [], ◌∷◌, ◌≡◌, ℕ, Option, Some, None, Result, Ok, Err, codes, if◌then◌else◌}
use Rattle.arrayvec.specs.ArrayVec.{ArrayVec}
use Rattle.pcef_filter.specs.Tokens.{Token, begins_with_digit, tokens}
use Rattle.pcef_filter.specs.ReadingClasses.{is_word, direction_in, proto_in, place_in, ports_in, is_clash}
use Rattle.pcef_filter.specs.declared.filter.Direction.{Direction}
use Rattle.pcef_filter.specs.declared.filter.Flow.{Flow}
use Rattle.pcef_filter.specs.declared.filter.Place.{Place}
use Rattle.pcef_filter.specs.declared.filter.PortRange.{PortRange}
use Rattle.pcef_filter.specs.declared.filter.Endpoint.{Endpoint}
use Rattle.pcef_filter.specs.declared.filter.Filter.{Filter}
use Rattle.pcef_filter.specs.declared.filter.FilterFault.{FilterFault}
use Rattle.pcef_filter.specs.declared.filter.FilterFault.TheVariants as fault

-- ---- readings in turn
infixl 10 ◌>>=◌
abbrev pub ◌>>=◌ : {X Y : Type 0} → Result X FilterFault → (X → Result Y FilterFault) → Result Y FilterFault
(Ok x) >>= next = next x
(Err e) >>= next = Err e

abbrev pub value_or : {X Y : Type 0} → Option X → FilterFault → (X → Result Y FilterFault) → Result Y FilterFault
value_or None e next = Err e
value_or (Some x) e next = next x

-- a value at the front of tokens, and the tokens behind it
abbrev pub Front : Type 0 → Type 0
Front X = Result (X × List Token) FilterFault

-- what a reader returns and leaves behind is this front
abbrev pub IsFront : {X : Type 0} → Result X FilterFault → List Token → Front X → Type 0
IsFront (Ok x) rest front = front ≡ Ok (x, rest)
IsFront (Err e) rest front = front ≡ Err e

-- the tokens behind a word
abbrev pub word_at : Token → FilterFault → List Token → Result (List Token) FilterFault
word_at word e [] = Err e
word_at word e (t ∷ ts) = if is_word word t then Ok ts else Err e

-- a token of some class
abbrev pub token_at : {X : Type 0} → (Token → Option X) → FilterFault → List Token → Front X
token_at class e [] = Err e
token_at class e (t ∷ ts) = value_or (class t) e (λ x. Ok (x, ts))

-- ---- endpoints
abbrev pub endpoint_of : Place → ArrayVec PortRange → Endpoint
endpoint_of place ports = record { place = place; ports = ports }

abbrev pub no_ports : ArrayVec PortRange
no_ports = record { items = [] }

abbrev pub at_end : Endpoint → List Token → Result Endpoint FilterFault
at_end endpoint [] = Ok endpoint
at_end endpoint (t ∷ ts) = Err fault.Rest

unfoldable pub target_from : Place → List Token → Result Endpoint FilterFault
target_from place [] = Ok (endpoint_of place no_ports)
target_from place (t ∷ ts) =
    if begins_with_digit t
    then value_or (ports_in t) fault.TargetPorts (λ ports. at_end (endpoint_of place ports) ts)
    else Err fault.Rest

unfoldable pub target_at : List Token → Result Endpoint FilterFault
target_at ts = token_at place_in fault.Target ts >>= λ place. target_from place.0 place.1

-- an endpoint before the word `to`
abbrev pub before_to : Endpoint → List Token → Front Endpoint
before_to endpoint ts = word_at (codes "to") fault.To ts >>= λ rest. Ok (endpoint, rest)

unfoldable pub source_from : Place → List Token → Front Endpoint
source_from place [] = Err fault.To
source_from place (t ∷ ts) =
    if begins_with_digit t
    then value_or (ports_in t) fault.SourcePorts (λ ports. before_to (endpoint_of place ports) ts)
    else before_to (endpoint_of place no_ports) (t ∷ ts)

unfoldable pub source_at : List Token → Front Endpoint
source_at ts = token_at place_in fault.Source ts >>= λ place. source_from place.0 place.1

-- ---- filters
abbrev pub filter_of : Option Flow → Direction → Option ℕ → Endpoint → Endpoint → Filter
filter_of flow direction proto source target =
    record { direction = direction; flow = flow; proto = proto; source = source; target = target }

-- the filter whatever the flow word
unfoldable pub parts_in : Option Flow → List Token → Result Filter FilterFault
parts_in flow ts =
    word_at (codes "permit") fault.Action ts >>= λ rest.
    token_at direction_in fault.Direction rest >>= λ direction.
    token_at proto_in fault.Proto direction.1 >>= λ proto.
    word_at (codes "from") fault.From proto.1 >>= λ rest.
    source_at rest >>= λ source.
    target_at source.1 >>= λ target.
    Ok (filter_of flow direction.0 proto.0 source.0 target)

abbrev pub unless_clash : Option Flow → Filter → Result Filter FilterFault
unless_clash flow filter = if is_clash filter.direction flow then Err fault.Flow else Ok filter

unfoldable pub filter_in : Option Flow → List Token → Result Filter FilterFault
filter_in flow ts = parts_in flow ts >>= unless_clash flow

-- the filter that a text and its flow word give, or their fault
abbrev pub reading_of : List ℕ → Option Flow → Result Filter FilterFault
reading_of text flow = filter_in flow (tokens text)
