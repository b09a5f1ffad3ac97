-- Answers to orders, one after the other.
use Rattle.std.proofs.Common.{◌≡◌, ◌∙◌, ◌⊎◌, ◌<◌, ℕ, List, [], ◌∷◌, ◌++◌, All, length, refl, sym, ap, append-nil, append_assoc, subst, inl, inr}
use Rattle.std.specs.Prelude.{IfErr, OnOk, Option, Some, Result, Ok, Err}
use Rattle.std.specs.Io.KnownBytes.{Appends, Keeps}
use Rattle.std.proofs.KnownBytes.{Appends-kept, Appends-trans}
use Rattle.pcef_rule.specs.declared.quantity.Sums.{Sums}
use Rattle.pcef_script.specs.ScriptLines.{AppendsFront}
use Rattle.pcef_run.specs.Granting.{PooledModel, granted_to}
use Rattle.pcef_run.specs.Opening.{Asked}
use Rattle.pcef_run.specs.PoolRuns.{AnswersEach, AnswersAll, AnswersFirst, AnswersOrder, EndsOrders, OpenedOn, RunsPool, StopsAtOrder, StopsInOrders, StopsText, WritesOrder, WritesOrders, granted_text}
use Rattle.pcef_run.specs.declared.pool_end.PoolEnd.{PoolEnd}
use Rattle.pcef_run.specs.declared.pool_end.PoolEnd.TheVariants as end
use Rattle.pcef_run.specs.declared.order.Order.{Order}

-- one order more
pub answers_more : (before between after : PooledModel) (orders : List Order) (o : Order) (told line : List ℕ) → AnswersEach before orders told between → AnswersOrder between o line after
    → AnswersEach before (orders ++ o ∷ []) (told ++ line) after
answers_more before between after [] o told line (none, same) answered =
    (line, [], after, subst (λ p. AnswersOrder p o line after) same answered, (refl, refl), ap (λ t. t ++ line) none ∙ sym (append-nil line))
answers_more before between after (p ∷ orders) o told line (first, rest, middle, first_is, others, is) answered =
    (first, rest ++ line, middle, first_is, answers_more middle between after orders o rest line others answered, ap (λ t. t ++ line) is ∙ append_assoc first rest line)

pub written_more : (before between after : PooledModel) (orders : List Order) (o : Order) (a b c : Option (List ℕ)) → WritesOrders before orders between a b → WritesOrder between o after b c
    → WritesOrders before (orders ++ o ∷ []) after a c
written_more before between after orders o a b c (told, answers, appended) (line, answered, more) =
    (told ++ line, answers_more before between after orders o told line answers answered, Appends-trans a b c told line appended more)

-- ---- where it ends early
-- a front of what follows
front_more : (a b c : Option (List ℕ)) (told line : List ℕ) → Appends a b told → AppendsFront b c line → AppendsFront a c (told ++ line)
front_more a b c told line appended (front, rest, is, more) =
    (told ++ front, rest, ap (λ t. told ++ t) is ∙ sym (append_assoc told front rest), Appends-trans a b c told front appended more)

kept_more : (a b c : Option (List ℕ)) (told : List ℕ) → Appends a b told → Keeps b c → Appends a c told
kept_more a b c told appended kept = Appends-kept a b c told appended kept

pub stopped_at : (e : PoolEnd) (before between : PooledModel) (orders rest all : List Order) (o : Order) (a b c : Option (List ℕ)) → all ≡ orders ++ o ∷ rest → WritesOrders before orders between a b
    → StopsAtOrder e between o b c → StopsInOrders e before all a c
stopped_at end.Write before between orders rest all o a b c whole (told, answers, appended) (line, after, answered, front) = (
  told ++ line,
  (orders ++ o ∷ [], rest, whole ∙ sym (append_assoc orders (o ∷ []) rest), after, answers_more before between after orders o told line answers answered),
  front_more a b c told line appended front,
)
stopped_at end.NoMemory before between orders rest all o a b c whole (told, answers, appended) kept =
    (told, (orders, o ∷ rest, whole, between, answers), kept_more a b c told appended kept)
stopped_at (end.Open fault) before between orders rest all o a b c whole written stops = absurd stops

-- ---- the whole
pub ended_early : (e : PoolEnd) (before : PooledModel) (orders : List Order) (a b : Option (List ℕ)) → StopsInOrders e before orders a b → EndsOrders before orders (Err e) a b
ended_early end.Write before orders a b (text, first, front) = (text, inl first, front)
ended_early end.NoMemory before orders a b stops = stops
ended_early (end.Open fault) before orders a b stops = absurd stops

pub ended : (before after : PooledModel) (orders : List Order) (granted : Sums) (a b c : Option (List ℕ)) → granted ≡ granted_to after.sessions → WritesOrders before orders after a b
    → Appends b c (granted_text granted) → EndsOrders before orders (Ok tt) a c
ended before after orders granted a b c is (told, answers, appended) more =
    (told ++ granted_text granted, (told, after, answers, ap (λ s. told ++ granted_text s) is), Appends-trans a b c told (granted_text granted) appended more)

pub ended_late : (e : PoolEnd) (before after : PooledModel) (orders : List Order) (granted : Sums) (a b c : Option (List ℕ)) → granted ≡ granted_to after.sessions → WritesOrders before orders after a b
    → StopsText e (granted_text granted) b c → EndsOrders before orders (Err e) a c
ended_late end.Write before after orders granted a b c is (told, answers, appended) front =
    (told ++ granted_text granted, inr (told, after, answers, ap (λ s. told ++ granted_text s) is), front_more a b c told (granted_text granted) appended front)
ended_late end.NoMemory before after orders granted a b c is (told, answers, appended) kept =
    (told, (orders, [], sym (append-nil orders), after, answers), kept_more a b c told appended kept)
ended_late (end.Open fault) before after orders granted a b c is written stops = absurd stops

pub ended_by : (r : Result (Unit {0}) PoolEnd) (before after : PooledModel) (orders : List Order) (granted : Sums) (a b c : Option (List ℕ)) → granted ≡ granted_to after.sessions → WritesOrders before orders after a b
    → OnOk r (Appends b c (granted_text granted)) → IfErr r (λ e. StopsText e (granted_text granted) b c) → EndsOrders before orders r a c
ended_by (Ok done) before after orders granted a b c is written all front = ended before after orders granted a b c is written all
ended_by (Err e) before after orders granted a b c is written all front = ended_late e before after orders granted a b c is written front

-- sessions that were opened run
pub run_opened : (capacity : Sums) (asked : List Asked) (orders : List Order) (r : Result (Unit {0}) PoolEnd) (start : PooledModel) (old new : Option (List ℕ)) → OpenedOn capacity asked start → EndsOrders start orders r old new
    → RunsPool capacity asked orders r old new
run_opened capacity asked orders (Ok done) start old new opened ends = (start, opened, ends)
run_opened capacity asked orders (Err end.Write) start old new opened ends = (start, opened, ends)
run_opened capacity asked orders (Err end.NoMemory) start old new opened ends = inr (start, opened, ends)
run_opened capacity asked orders (Err (end.Open fault)) start old new opened ends = absurd ends
