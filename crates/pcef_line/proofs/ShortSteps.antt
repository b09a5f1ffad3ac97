-- The tokens of a line read one member after another, and the fields that are kept of them.
use Rattle.std.proofs.Common.{◌≡◌, ◌∙◌, ℕ, ◌-◌, ◌<◌, ◌≤◌, List, [], ◌∷◌, length, Option, Some, None, Greater, option_map, option_and_then, refl, ap, arith}
use Rattle.std.specs.Prelude.{codes}
use Rattle.std.specs.Ordering.{nat_cmp}
use Rattle.std.specs.Cmp.Lexicographic.{slice_cmp}
use Rattle.json.specs.Token.{Token}
use Rattle.json.specs.Json as json
use Rattle.json.specs.Json.{Parse, parse_map, read_key, members, value}
use Rattle.json.proofs.Grammar.{value_is, value-begin_object, read_key-shorter, members_end, members_more}
use Rattle.serde_json.specs.Data.{Num, Data, number, object, Members, no_members, member, put}
use Rattle.serde_json.specs.Read.{of_json, of_members}
use Rattle.pcef_line.specs.ShortLines.{read_tokens, plain_of, with_member, members_of}

-- ---- the grammar

-- what is left to do: members, put into those that were found
abbrev ended : Members → json.Members → List Token → Option Data
ended found ms [] = option_map object (of_members ms found)
ended found ms (t ∷ ts) = None

abbrev pub finish : Members → Option (json.Members × List Token) → Option Data
finish found None = None
finish found (Some p) = ended found p.0 p.1

abbrev pub rest_of : ℕ → Members → List Token → Option Data
rest_of n found ts = finish found (members (value 126) n ts)

whole : (o : Option (json.Members × List Token)) → option_and_then of_json (option_and_then (λ p. json.if_last p.0 p.1) (parse_map json.object o)) ≡ finish no_members o
whole None = refl
whole (Some (ms, [])) = refl
whole (Some (ms, t ∷ ts)) = refl

pub begins : (ts : List Token) → read_tokens (Token.begin_object ∷ ts) ≡ rest_of (length ts) no_members ts
begins ts = ap (λ o. option_and_then of_json (option_and_then (λ p. json.if_last p.0 p.1) o)) (value-begin_object 127 ts (omega arith)) ∙ whole (members (value 126) (length ts) ts)

with_one : (k : List ℕ) (j : json.Json) (d : Data) (found : Members) (o : Option (json.Members × List Token)) → of_json j ≡ Some d → finish found (parse_map (json.member k j) o) ≡ finish (put k d found) o
with_one k j d found None e = refl
with_one k j d found (Some (ms, [])) e = rw e refl
with_one k j d found (Some (ms, t ∷ ts)) e = refl

option_is : (o : Option (Num)) (d : Data) → option_map number o ≡ Some d → (x : Num) × (o ≡ Some x) × (number x ≡ d)
option_is None d e = absurd (cc)
option_is (Some x) d e = (x, refl, cc)

-- one token's value, by the grammar
one : (depth : ℕ) (t : Token) (r : List Token) (d : Data) → plain_of t ≡ Some d → (j : json.Json) × (value depth (t ∷ r) ≡ Some (j, r)) × (of_json j ≡ Some d)
one depth Token.begin_object r d e = absurd (cc)
one depth Token.end_object r d e = absurd (cc)
one depth Token.begin_array r d e = absurd (cc)
one depth Token.end_array r d e = absurd (cc)
one depth (Token.key s) r d e = absurd (cc)
one depth (Token.string s) r d e = (json.string s, value_is depth (Token.string s ∷ r), e)
one depth (Token.number s) r d e = (json.number s, value_is depth (Token.number s ∷ r), e)
one depth (Token.boolean b) r d e = absurd (cc)
one depth Token.null r d e = absurd (cc)
one depth Token.bad r d e = absurd (cc)

pub goes_on : (n : ℕ) (k : List ℕ) (t : Token) (ts s r : List Token) (d : Data) (found : Members) → 0 < n → read_key ts ≡ Some (Some k, s) → s ≡ t ∷ r → plain_of t ≡ Some d
    → rest_of n found ts ≡ rest_of (n - 1) (put k d found) r
goes_on n k t ts s r d found some key first plain =
    let j = one 126 t r d plain in
    ap (finish found) (members_more (value 126) n k ts s r j.0 some key (ap (value 126) first ∙ j.1)) ∙ with_one k j.0 d found (members (value 126) (n - 1) r) j.2

kept_is : (o : Option Data) (f : Data → Members) (m : Members) → option_map f o ≡ Some m → (d : Data) × (o ≡ Some d) × (f d ≡ m)
kept_is None f m e = absurd (cc)
kept_is (Some d) f m e = (d, refl, cc)

-- one member more
pub turn : (n : ℕ) (k : List ℕ) (t : Token) (ts s r : List Token) (found m : Members) (all : Option Data) → length ts ≤ n → all ≡ rest_of n found ts → read_key ts ≡ Some (Some k, s) → s ≡ t ∷ r
    → option_map (λ d. put k d found) (plain_of t) ≡ Some m → (x : ℕ) × (length r ≤ x) × (all ≡ rest_of x m r)
turn n k t ts s r found m all enough is key first kept =
    let less = read_key-shorter ts (Some k) s key in
    let long = ap length first in
    let d = kept_is (plain_of t) (λ d. put k d found) m kept in
    (n - 1, omega (arith, less, long, enough), is ∙ goes_on n k t ts s r d.0 found (omega (arith, less, enough)) key first d.1 ∙ ap (λ o. rest_of (n - 1) o r) d.2)

pub is_over : (n : ℕ) (ts : List Token) (found : Members) → length ts ≤ n → read_key ts ≡ Some (None, []) → rest_of n found ts ≡ Some (object found)
is_over n ts found enough key = ap (finish found) (members_end (value 126) n ts [] enough key)

-- ---- the fields

past : (k l : List ℕ) (x : Data) (a : Option Data) (ms : Members) → slice_cmp nat_cmp k l ≡ Greater → put k x (with_member l a ms) ≡ with_member l a (put k x ms)
past k l x None ms e = refl
past k l x (Some d) ms e = rw e refl

last : (x : Data) (w : Option Data) → put (codes "worker") x (with_member (codes "worker") w no_members) ≡ member (codes "worker") x no_members
last x None = refl
last x (Some d) = refl

pub put_worker : (a b c w : Option Data) (x : Data) → put (codes "worker") x (members_of a b c w) ≡ members_of a b c (Some x)
put_worker a b c w x =
    past (codes "worker") (codes "dir") x a _ refl
    ∙ ap (with_member (codes "dir") a) (past (codes "worker") (codes "do") x b _ refl ∙ ap (with_member (codes "do") b) (past (codes "worker") (codes "packet") x c _ refl ∙ ap (with_member (codes "packet") c) (last x w)))

third : (x : Data) (c w : Option Data) → put (codes "packet") x (with_member (codes "packet") c (with_member (codes "worker") w no_members)) ≡ member (codes "packet") x (with_member (codes "worker") w no_members)
third x (Some d) w = refl
third x None (Some d) = refl
third x None None = refl

pub put_packet : (a b c w : Option Data) (x : Data) → put (codes "packet") x (members_of a b c w) ≡ members_of a b (Some x) w
put_packet a b c w x = past (codes "packet") (codes "dir") x a _ refl ∙ ap (with_member (codes "dir") a) (past (codes "packet") (codes "do") x b _ refl ∙ ap (with_member (codes "do") b) (third x c w))

second : (x : Data) (b c w : Option Data) → put (codes "do") x (with_member (codes "do") b (with_member (codes "packet") c (with_member (codes "worker") w no_members))) ≡ member (codes "do") x (with_member (codes "packet") c (with_member (codes "worker") w no_members))
second x (Some d) c w = refl
second x None (Some d) w = refl
second x None None (Some d) = refl
second x None None None = refl

pub put_word : (a b c w : Option Data) (x : Data) → put (codes "do") x (members_of a b c w) ≡ members_of a (Some x) c w
put_word a b c w x = past (codes "do") (codes "dir") x a _ refl ∙ ap (with_member (codes "dir") a) (second x b c w)

pub put_dir : (a b c w : Option Data) (x : Data) → put (codes "dir") x (members_of a b c w) ≡ members_of (Some x) b c w
put_dir (Some d) b c w x = refl
put_dir None (Some d) c w x = refl
put_dir None None (Some d) w x = refl
put_dir None None None (Some d) x = refl
put_dir None None None None x = refl
