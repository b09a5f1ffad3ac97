-- Lines before the first packet, and from it on.
use Rattle.std.proofs.Common.{◌≡◌, ◌∙◌, Bool, true, false, List, [], ◌∷◌, ◌++◌, ◌==◌, length, refl, sym, ap, append_assoc, append-nil}
use Rattle.std.proofs.lemmas.Bool.{false≢true}
use Rattle.pcef_model.specs.declared.command.Command.{Command}
use Rattle.pcef_model.specs.declared.step.Step.TheVariants as step
use Rattle.pcef_line.specs.declared.line.Line.{Line}
use Rattle.pcef_line.specs.declared.line.Line.TheVariants as line
use Rattle.pcef_gateway.specs.declared.arrivals.Arrival.{Arrival}
use Rattle.pcef_run.specs.Plans.{IsPlanOf, before_packets, command_in, line_of_command, commands_in, from_packets, is_packet, arrival_in, packet_line, packets_in}
use Rattle.pcef_run.specs.declared.plan.Plan.{Plan}

pub commands_more : (a b : List Line) → commands_in (a ++ b) ≡ commands_in a ++ commands_in b
unfolding commands_in
commands_more [] b = refl
commands_more (l ∷ a) b = ap (λ t. command_in l ++ t) (commands_more a b) ∙ sym (append_assoc (command_in l) (commands_in a) (commands_in b))

pub packets_more : (a b : List Line) → packets_in (a ++ b) ≡ packets_in a ++ packets_in b
unfolding packets_in
packets_more [] b = refl
packets_more (l ∷ a) b = ap (λ t. arrival_in l ++ t) (packets_more a b) ∙ sym (append_assoc (arrival_in l) (packets_in a) (packets_in b))

-- ---- one line
some_packet : (l : Line) → is_packet l ≡ true → (a : Arrival) × (arrival_in l ≡ a ∷ [])
some_packet (line.Step (step.Command c)) is = absurd (false≢true is)
some_packet (line.Step step.Attach) is = absurd (false≢true is)
some_packet (line.Step (step.Take w h)) is = (record { worker = w; header = h }, refl)
some_packet (line.Step (step.Refresh w)) is = absurd (false≢true is)
some_packet (line.Step (step.Flush w)) is = absurd (false≢true is)
some_packet (line.Step (step.Finish w)) is = absurd (false≢true is)
some_packet (line.Step (step.Abandon w)) is = absurd (false≢true is)
some_packet line.Show is = absurd (false≢true is)

no_packet : (l : Line) → is_packet l ≡ false → arrival_in l ≡ []
no_packet (line.Step (step.Command c)) is = refl
no_packet (line.Step step.Attach) is = refl
no_packet (line.Step (step.Take w h)) is = absurd (false≢true (sym is))
no_packet (line.Step (step.Refresh w)) is = refl
no_packet (line.Step (step.Flush w)) is = refl
no_packet (line.Step (step.Finish w)) is = refl
no_packet (line.Step (step.Abandon w)) is = refl
no_packet line.Show is = refl

abbrev is_empty : List Arrival → Bool
is_empty [] = true
is_empty (a ∷ bs) = false

-- packets behind one aren't none
not_none : (a : Arrival) (ps qs : List Arrival) → ps ≡ a ∷ [] → ps ++ qs ≡ [] → ⊥
not_none a ps qs is none = false≢true (ap is_empty (sym (ap (λ t. t ++ qs) is) ∙ none))

-- ---- while there is no packet
pub all_before : (asked : List Line) → packets_in asked ≡ [] → before_packets asked ≡ asked
unfolding packets_in before_packets
all_before [] none = refl
all_before (l ∷ asked) none = by_test (is_packet l) refl (all_before asked)
  where
    by_test : (test : Bool) → is_packet l ≡ test → (packets_in asked ≡ [] → before_packets asked ≡ asked) → before_packets (l ∷ asked) ≡ l ∷ asked
    by_test true is so_far = let some = some_packet l is in absurd (not_none some.0 (arrival_in l) (packets_in asked) some.1 none)
    by_test false is so_far =
        let others : packets_in asked ≡ [] = sym (ap (λ t. t ++ packets_in asked) (no_packet l is)) ∙ none in
        rw is (ap (λ t. l ∷ t) (so_far others))

pub none_from : (asked : List Line) → packets_in asked ≡ [] → from_packets asked ≡ []
unfolding packets_in from_packets
none_from [] none = refl
none_from (l ∷ asked) none = by_test (is_packet l) refl (none_from asked)
  where
    by_test : (test : Bool) → is_packet l ≡ test → (packets_in asked ≡ [] → from_packets asked ≡ []) → from_packets (l ∷ asked) ≡ []
    by_test true is so_far = let some = some_packet l is in absurd (not_none some.0 (arrival_in l) (packets_in asked) some.1 none)
    by_test false is so_far =
        let others : packets_in asked ≡ [] = sym (ap (λ t. t ++ packets_in asked) (no_packet l is)) ∙ none in
        rw is (so_far others)

-- the first packet
pub before_first : (asked : List Line) (a : Arrival) → packets_in asked ≡ [] → before_packets (asked ++ packet_line a ∷ []) ≡ asked
unfolding packets_in before_packets
before_first [] a none = refl
before_first (l ∷ asked) a none = by_test (is_packet l) refl (before_first asked a)
  where
    by_test : (test : Bool) → is_packet l ≡ test → (packets_in asked ≡ [] → before_packets (asked ++ packet_line a ∷ []) ≡ asked) → before_packets (l ∷ (asked ++ packet_line a ∷ [])) ≡ l ∷ asked
    by_test true is so_far = let some = some_packet l is in absurd (not_none some.0 (arrival_in l) (packets_in asked) some.1 none)
    by_test false is so_far =
        let others : packets_in asked ≡ [] = sym (ap (λ t. t ++ packets_in asked) (no_packet l is)) ∙ none in
        rw is (ap (λ t. l ∷ t) (so_far others))

pub from_first : (asked : List Line) (a : Arrival) → packets_in asked ≡ [] → from_packets (asked ++ packet_line a ∷ []) ≡ packet_line a ∷ []
unfolding packets_in from_packets
from_first [] a none = refl
from_first (l ∷ asked) a none = by_test (is_packet l) refl (from_first asked a)
  where
    by_test : (test : Bool) → is_packet l ≡ test → (packets_in asked ≡ [] → from_packets (asked ++ packet_line a ∷ []) ≡ packet_line a ∷ [])
        → from_packets (l ∷ (asked ++ packet_line a ∷ [])) ≡ packet_line a ∷ []
    by_test true is so_far = let some = some_packet l is in absurd (not_none some.0 (arrival_in l) (packets_in asked) some.1 none)
    by_test false is so_far =
        let others : packets_in asked ≡ [] = sym (ap (λ t. t ++ packets_in asked) (no_packet l is)) ∙ none in
        rw is (so_far others)

-- ---- behind a packet
nothing_some : (a : Arrival) (bs : List Arrival) → [] ≡ a ∷ bs → ⊥
nothing_some a bs is = false≢true (sym (ap is_empty is))

pub before_later : (asked more : List Line) (a : Arrival) (bs : List Arrival) → packets_in asked ≡ a ∷ bs → before_packets (asked ++ more) ≡ before_packets asked
unfolding packets_in before_packets
before_later [] more a bs some = absurd (nothing_some a bs some)
before_later (l ∷ asked) more a bs some = by_test (is_packet l) refl (before_later asked more a bs)
  where
    by_test : (test : Bool) → is_packet l ≡ test → (packets_in asked ≡ a ∷ bs → before_packets (asked ++ more) ≡ before_packets asked)
        → before_packets (l ∷ (asked ++ more)) ≡ before_packets (l ∷ asked)
    by_test true is so_far = rw is refl
    by_test false is so_far =
        let others : packets_in asked ≡ a ∷ bs = sym (ap (λ t. t ++ packets_in asked) (no_packet l is)) ∙ some in
        rw is (ap (λ t. l ∷ t) (so_far others))

pub from_later : (asked more : List Line) (a : Arrival) (bs : List Arrival) → packets_in asked ≡ a ∷ bs → from_packets (asked ++ more) ≡ from_packets asked ++ more
unfolding packets_in from_packets
from_later [] more a bs some = absurd (nothing_some a bs some)
from_later (l ∷ asked) more a bs some = by_test (is_packet l) refl (from_later asked more a bs)
  where
    by_test : (test : Bool) → is_packet l ≡ test → (packets_in asked ≡ a ∷ bs → from_packets (asked ++ more) ≡ from_packets asked ++ more)
        → from_packets (l ∷ (asked ++ more)) ≡ from_packets (l ∷ asked) ++ more
    by_test true is so_far = rw is refl
    by_test false is so_far =
        let others : packets_in asked ≡ a ∷ bs = sym (ap (λ t. t ++ packets_in asked) (no_packet l is)) ∙ some in
        rw is (so_far others)

-- ---- plans
one_command : (c : Command) → commands_in (line_of_command c ∷ []) ≡ c ∷ []
unfolding commands_in
one_command c = refl

no_command : (a : Arrival) → commands_in (packet_line a ∷ []) ≡ []
unfolding commands_in
no_command a = refl

one_packet : (a : Arrival) → packets_in (packet_line a ∷ []) ≡ a ∷ []
unfolding packets_in
one_packet a = refl

none_of_command : (c : Command) → packets_in (line_of_command c ∷ []) ≡ []
unfolding packets_in
none_of_command c = refl

no_commands : commands_in [] ≡ []
unfolding commands_in
no_commands = refl

-- nothing is asked for
pub nothing : (plan : Plan) → plan.first.items ≡ [] → plan.arrivals.items ≡ [] → plan.later.items ≡ [] → IsPlanOf [] plan
unfolding commands_in packets_in before_packets from_packets
nothing plan first arrivals later = record { first = first; arrivals = arrivals; later = later }

same_packets : (asked : List Line) (c : Command) → packets_in (asked ++ line_of_command c ∷ []) ≡ packets_in asked
same_packets asked c = packets_more asked (line_of_command c ∷ []) ∙ ap (λ t. packets_in asked ++ t) (none_of_command c) ∙ append-nil (packets_in asked)

more_commands : (lines : List Line) (c : Command) → commands_in (lines ++ line_of_command c ∷ []) ≡ commands_in lines ++ c ∷ []
more_commands lines c = commands_more lines (line_of_command c ∷ []) ∙ ap (λ t. commands_in lines ++ t) (one_command c)

-- a command before the first packet
pub first_command : (asked : List Line) (plan new : Plan) (c : Command) → plan.arrivals.items ≡ [] → new.first.items ≡ plan.first.items ++ c ∷ [] → new.arrivals.items ≡ plan.arrivals.items
    → new.later.items ≡ plan.later.items → IsPlanOf asked plan → IsPlanOf (asked ++ line_of_command c ∷ []) new
first_command asked plan new c empty first arrivals later is =
    let none : packets_in asked ≡ [] = sym is.arrivals ∙ empty in
    let still : packets_in (asked ++ line_of_command c ∷ []) ≡ [] = same_packets asked c ∙ none in
    record {
      first = first ∙ ap (λ t. t ++ c ∷ []) (is.first ∙ ap commands_in (all_before asked none))
          ∙ sym (more_commands asked c) ∙ ap commands_in (sym (all_before (asked ++ line_of_command c ∷ []) still));
      arrivals = arrivals ∙ is.arrivals ∙ sym (same_packets asked c);
      later = later ∙ is.later ∙ ap commands_in (none_from asked none ∙ sym (none_from (asked ++ line_of_command c ∷ []) still));
    }

-- and one after it
pub later_command : (asked : List Line) (plan new : Plan) (c : Command) (a : Arrival) (bs : List Arrival) → plan.arrivals.items ≡ a ∷ bs → new.first.items ≡ plan.first.items
    → new.arrivals.items ≡ plan.arrivals.items → new.later.items ≡ plan.later.items ++ c ∷ [] → IsPlanOf asked plan → IsPlanOf (asked ++ line_of_command c ∷ []) new
later_command asked plan new c a bs some first arrivals later is =
    let there : packets_in asked ≡ a ∷ bs = sym is.arrivals ∙ some in
    record {
      first = first ∙ is.first ∙ ap commands_in (sym (before_later asked (line_of_command c ∷ []) a bs there));
      arrivals = arrivals ∙ is.arrivals ∙ sym (same_packets asked c);
      later = later ∙ ap (λ t. t ++ c ∷ []) is.later ∙ sym (more_commands (from_packets asked) c) ∙ ap commands_in (sym (from_later asked (line_of_command c ∷ []) a bs there));
    }

-- the same, by a test of what is there
pub filled_command : (asked : List Line) (plan new : Plan) (c : Command) → (length plan.arrivals.items == 0) ≡ false → new.first.items ≡ plan.first.items → new.arrivals.items ≡ plan.arrivals.items
    → new.later.items ≡ plan.later.items ++ c ∷ [] → IsPlanOf asked plan → IsPlanOf (asked ++ line_of_command c ∷ []) new
filled_command asked plan new c filled first arrivals later is = by_list plan.arrivals.items refl filled
  where
    by_list : (there : List Arrival) → plan.arrivals.items ≡ there → (length there == 0) ≡ false → IsPlanOf (asked ++ line_of_command c ∷ []) new
    by_list [] same none = absurd (false≢true (sym none))
    by_list (a ∷ bs) same some = later_command asked plan new c a bs same first arrivals later is

more_packets : (asked : List Line) (plan new : Plan) (a : Arrival) → new.arrivals.items ≡ plan.arrivals.items ++ a ∷ [] → IsPlanOf asked plan → new.arrivals.items ≡ packets_in (asked ++ packet_line a ∷ [])
more_packets asked plan new a arrivals is =
    arrivals ∙ ap (λ t. t ++ a ∷ []) is.arrivals ∙ sym (packets_more asked (packet_line a ∷ []) ∙ ap (λ t. packets_in asked ++ t) (one_packet a))

-- a packet
pub packet_added : (asked : List Line) (plan new : Plan) (a : Arrival) → new.first.items ≡ plan.first.items → new.arrivals.items ≡ plan.arrivals.items ++ a ∷ []
    → new.later.items ≡ plan.later.items → IsPlanOf asked plan → IsPlanOf (asked ++ packet_line a ∷ []) new
packet_added asked plan new a first arrivals later is = by_list plan.arrivals.items refl
  where
    by_list : (there : List Arrival) → plan.arrivals.items ≡ there → IsPlanOf (asked ++ packet_line a ∷ []) new
    by_list [] empty =
        let none : packets_in asked ≡ [] = sym is.arrivals ∙ empty in
        record {
          first = first ∙ is.first ∙ ap commands_in (all_before asked none ∙ sym (before_first asked a none));
          arrivals = more_packets asked plan new a arrivals is;
          later = later ∙ is.later ∙ ap commands_in (none_from asked none) ∙ no_commands ∙ sym (no_command a) ∙ ap commands_in (sym (from_first asked a none));
        }
    by_list (b ∷ bs) some =
        let there : packets_in asked ≡ b ∷ bs = sym is.arrivals ∙ some in
        record {
          first = first ∙ is.first ∙ ap commands_in (sym (before_later asked (packet_line a ∷ []) b bs there));
          arrivals = more_packets asked plan new a arrivals is;
          later = later ∙ is.later ∙ sym (append-nil (commands_in (from_packets asked))) ∙ ap (λ t. commands_in (from_packets asked) ++ t) (sym (no_command a))
              ∙ sym (commands_more (from_packets asked) (packet_line a ∷ [])) ∙ ap commands_in (sym (from_later asked (packet_line a ∷ []) b bs there));
        }
