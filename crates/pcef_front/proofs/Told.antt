-- The answers of readers for fronts, and how one reader's answer carries over to another's.
use Rattle.std.proofs.Common.{ℕ, zero, suc, ◌≡◌, ◌+◌, ◌-◌, ◌<◌, ◌≤◌, ◌∙◌, ◌++◌, List, [], ◌∷◌, length, take, drop, replicate, Result, Ok, Err, refl, sym, ap, arith, append_assoc}
use Rattle.std.specs.List.{All, slice_range}
use Rattle.std.proofs.lemmas.List.{length-append, length-drop, length-replicate, length-take}
use Rattle.std.proofs.lemmas.List.Elements.{All-append, All-drop, All-replicate, All-take}
use Rattle.std.proofs.Math.Seq.{drop-append_seam, take-append_seam}
use Rattle.pcef_packet.specs.declared.header.PacketFault.{PacketFault}
use Rattle.pcef_front.specs.Fronts.{IsOpen, IsSettledBy, MayFollow}
use Rattle.pcef_front.specs.declared.fault.FrontFault.{FrontFault}
use Rattle.pcef_front.specs.declared.fault.FrontFault.TheVariants.{TooFew, Packet}

-- ---- parts of two lists in turn
pub drop_join : (n : ℕ) (xs ys : List ℕ) → drop n (xs ++ ys) ≡ drop n xs ++ drop (n - length xs) ys
drop_join zero xs ys = let none : 0 - length xs ≡ 0 = omega arith in rw none refl
drop_join (suc n) [] ys = let all : suc n - 0 ≡ suc n = omega arith in rw all refl
drop_join (suc n) (x ∷ xs) ys =
    let less : suc n - length (x ∷ xs) ≡ n - length xs = omega arith in
    rw less (drop_join n xs ys)

pub take_join : (n : ℕ) (xs ys : List ℕ) → take n (xs ++ ys) ≡ take n xs ++ take (n - length xs) ys
take_join zero xs ys = let none : 0 - length xs ≡ 0 = omega arith in rw none refl
take_join (suc n) [] ys = let all : suc n - 0 ≡ suc n = omega arith in rw all refl
take_join (suc n) (x ∷ xs) ys =
    let less : suc n - length (x ∷ xs) ≡ n - length xs = omega arith in
    rw less (ap (λ l. x ∷ l) (take_join n xs ys))

-- ---- octets that may follow
abbrev pub IsOctet : ℕ → Type 0
IsOctet o = o < 256

abbrev pub blank : ℕ → List ℕ
blank n = replicate n 0

pub zeros : (n : ℕ) → All IsOctet (blank n)
zeros n = All-replicate IsOctet n 0 (omega arith)

pub blank_len : (n : ℕ) → length (blank n) ≡ n
blank_len n = length-replicate n 0

longer : (front filler rest : List ℕ) (whole : ℕ) → All IsOctet filler → MayFollow (front ++ filler) whole rest → MayFollow front whole (filler ++ rest)
longer front filler rest whole fill f =
    let one = length-append front filler in
    let other = length-append filler rest in
    let long = f.long in
    record { octets = All-append IsOctet filler rest fill f.octets; long = omega arith }

-- where more octets of a packet are at hand, and what is read still depends on the rest
pub shorter : {A : Type 0} (read : List ℕ → A) (front filler : List ℕ) (whole : ℕ) → All IsOctet filler → IsOpen read (front ++ filler) whole → IsOpen read front whole
shorter read front filler whole fill is = (
  filler ++ is.0,
  filler ++ is.1,
  longer front filler is.0 whole fill is.2,
  longer front filler is.1 whole fill is.3,
  λ same. is.4 (ap read (append_assoc front filler is.0) ∙ same ∙ ap read (sym (append_assoc front filler is.1))),
)

-- ---- a reader that maps what another one reads
abbrev pub on_ok : {X Y : Type 0} → (X → Y) → Result X PacketFault → Result Y PacketFault
on_ok f (Ok x) = Ok (f x)
on_ok f (Err e) = Err e

abbrev pub on_front : {X Y : Type 0} → (X → Y) → Result X FrontFault → Result Y FrontFault
on_front f (Ok x) = Ok (f x)
on_front f (Err e) = Err e

-- different values map to different ones
abbrev pub Keeps : {X Y : Type 0} → (X → Y) → Type 0
Keeps {X = X} f = (a b : X) → f a ≡ f b → a ≡ b

apart : {X Y : Type 0} (f : X → Y) → Keeps f → (r s : Result X PacketFault) → on_ok f r ≡ on_ok f s → r ≡ s
apart f keeps (Ok x) (Ok y) same = ap Ok (keeps x y (cc))
apart f keeps (Ok x) (Err e) same = absurd (cc)
apart f keeps (Err e) (Ok y) same = absurd (cc)
apart f keeps (Err e) (Err g) same = cc

pub made : {X Y : Type 0} (inner : List ℕ → Result X PacketFault) (outer : List ℕ → Result Y PacketFault) (f : X → Y) (front : List ℕ) (whole : ℕ)
    → Keeps f → ((rest : List ℕ) → MayFollow front whole rest → outer (front ++ rest) ≡ on_ok f (inner (front ++ rest)))
    → (r : Result X FrontFault) → IsSettledBy inner front whole r → IsSettledBy outer front whole (on_front f r)
made inner outer f front whole keeps is (Ok x) told = λ rest follows. is rest follows ∙ ap (on_ok f) (told rest follows)
made inner outer f front whole keeps is (Err (Packet e)) told = λ rest follows. is rest follows ∙ ap (on_ok f) (told rest follows)
made inner outer f front whole keeps is (Err TooFew) told = (
  told.0,
  told.1,
  told.2,
  told.3,
  λ same. told.4 (apart f keeps _ _ (sym (is told.0 told.2) ∙ same ∙ is told.1 told.3)),
)

-- two readers that read the same
pub same_read : {X : Type 0} (inner outer : List ℕ → Result X PacketFault) (front : List ℕ) (whole : ℕ)
    → ((rest : List ℕ) → MayFollow front whole rest → outer (front ++ rest) ≡ inner (front ++ rest))
    → (r : Result X FrontFault) → IsSettledBy inner front whole r → IsSettledBy outer front whole r
same_read inner outer front whole is (Ok x) told = λ rest follows. is rest follows ∙ told rest follows
same_read inner outer front whole is (Err (Packet e)) told = λ rest follows. is rest follows ∙ told rest follows
same_read inner outer front whole is (Err TooFew) told = (
  told.0,
  told.1,
  told.2,
  told.3,
  λ same. told.4 (sym (is told.0 told.2) ∙ same ∙ is told.1 told.3),
)

-- ---- a reader of a part
part : (front rest : List ℕ) (lo hi : ℕ) → lo ≤ hi → slice_range (front ++ rest) lo hi ≡ slice_range front lo hi ++ slice_range rest (lo - length front) (hi - length front)
part front rest lo hi order =
    let left = length-drop lo front in
    let count : hi - lo - length (drop lo front) ≡ hi - length front - (lo - length front) = omega arith in
    ap (take (hi - lo)) (drop_join lo front rest)
    ∙ take_join (hi - lo) (drop lo front) (drop (lo - length front) rest)
    ∙ ap (λ n. take (hi - lo) (drop lo front) ++ take n (drop (lo - length front) rest)) count

part_len : (xs : List ℕ) (lo hi : ℕ) → lo ≤ hi → hi ≤ length xs → length (slice_range xs lo hi) ≡ hi - lo
part_len xs lo hi order within =
    let cut = length-drop lo xs in
    let taken = length-take (hi - lo) (drop lo xs) in
    omega arith

part_follows : (front rest : List ℕ) (whole lo hi : ℕ) → lo ≤ hi → hi ≤ whole → MayFollow front whole rest
    → MayFollow (slice_range front lo hi) (hi - lo) (slice_range rest (lo - length front) (hi - length front))
part_follows front rest whole lo hi order within f =
    let both = length-append front rest in
    let long = f.long in
    let all = part_len (front ++ rest) lo hi order (omega arith) in
    let split = ap length (part front rest lo hi order) in
    let sum = length-append (slice_range front lo hi) (slice_range rest (lo - length front) (hi - length front)) in
    record { octets = All-take IsOctet (hi - length front - (lo - length front)) (drop (lo - length front) rest) (All-drop IsOctet (lo - length front) rest f.octets); long = omega arith }

-- octets that follow a part, with zeros around them
abbrev around : List ℕ → ℕ → ℕ → List ℕ → List ℕ
around front whole lo one =
    blank (lo - length front) ++ (one ++ blank (whole - length front - (lo - length front) - length one))

around_part : (front one : List ℕ) (whole lo hi : ℕ) → lo ≤ hi → hi ≤ whole → MayFollow (slice_range front lo hi) (hi - lo) one
    → slice_range (around front whole lo one) (lo - length front) (hi - length front) ≡ one
around_part front one whole lo hi order within f =
    let before = lo - length front in
    let after = blank (whole - length front - before - length one) in
    let count = blank_len before in
    let cut = length-drop lo front in
    let taken = length-take (hi - lo) (drop lo front) in
    let long = f.long in
    let behind : drop before (blank before ++ (one ++ after)) ≡ one ++ after =
    ap (λ n. drop n (blank before ++ (one ++ after))) (sym count) ∙ drop-append_seam (blank before) (one ++ after) in
    let size : hi - length front - before ≡ length one = omega arith in
    ap (take (hi - length front - before)) behind
    ∙ ap (λ n. take n (one ++ after)) size
    ∙ take-append_seam one after

around_follows : (front one : List ℕ) (whole lo hi : ℕ) → length front ≤ whole → lo ≤ hi → hi ≤ whole → MayFollow (slice_range front lo hi) (hi - lo) one
    → MayFollow front whole (around front whole lo one)
around_follows front one whole lo hi short order within f =
    go (lo - length front) (whole - length front - (lo - length front) - length one) refl refl
  where
    go : (before after : ℕ) → before ≡ lo - length front → after ≡ whole - length front - (lo - length front) - length one
        → MayFollow front whole (blank before ++ (one ++ blank after))
    go before after b a =
        let count : length (blank before) ≡ before = blank_len before in
        let rest : length (blank after) ≡ after = blank_len after in
        let cut : length (drop lo front) ≡ length front - lo = length-drop lo front in
        let taken = length-take (hi - lo) (drop lo front) in
        let inner : length (one ++ blank after) ≡ length one + length (blank after) = length-append one (blank after) in
        let outer : length (blank before ++ (one ++ blank after)) ≡ length (blank before) + length (one ++ blank after) =
        length-append (blank before) (one ++ blank after) in
        let long = f.long in
        record {
          octets = All-append IsOctet (blank before) (one ++ blank after) (zeros before) (All-append IsOctet one (blank after) f.octets (zeros after));
          long = omega arith;
        }

pub windowed : {X : Type 0} (read : List ℕ → Result X PacketFault) (front : List ℕ) (whole lo hi : ℕ) → length front ≤ whole → lo ≤ hi → hi ≤ whole
    → (r : Result X FrontFault) → IsSettledBy read (slice_range front lo hi) (hi - lo) r → IsSettledBy (λ octets. read (slice_range octets lo hi)) front whole r
windowed read front whole lo hi short order within (Ok x) told =
    λ rest f. ap read (part front rest lo hi order) ∙ told _ (part_follows front rest whole lo hi order within f)
windowed read front whole lo hi short order within (Err (Packet e)) told =
    λ rest f. ap read (part front rest lo hi order) ∙ told _ (part_follows front rest whole lo hi order within f)
windowed read front whole lo hi short order within (Err TooFew) told = (
  around front whole lo told.0,
  around front whole lo told.1,
  around_follows front told.0 whole lo hi short order within told.2,
  around_follows front told.1 whole lo hi short order within told.3,
  λ same. told.4 (sym (back told.0 told.2) ∙ same ∙ back told.1 told.3),
)
  where
    back : (one : List ℕ) → MayFollow (slice_range front lo hi) (hi - lo) one → read (slice_range (front ++ around front whole lo one) lo hi) ≡ read (slice_range front lo hi ++ one)
    back one f =
        ap read (part front (around front whole lo one) lo hi order
        ∙ ap (λ l. slice_range front lo hi ++ l) (around_part front one whole lo hi order within f))
