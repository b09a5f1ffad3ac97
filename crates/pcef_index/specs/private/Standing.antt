-- Words with the bits of lines whose rules stand.
use Rattle.std.specs.Prelude.{ℕ, ◌+◌, ◌*◌, ◌≡◌, ◌<◌, true, List, [], Option, Some, None, get_or}
use Rattle.std.specs.Global.{Box, Global}
use Rattle.std.specs.Int.{bit_at}
use Rattle.std.specs.declared.vec.Vec.{Vec}
use Rattle.pcef_index.specs.declared.by_kind.ByClass.{ByClass}
use Rattle.pcef_index.specs.declared.by_kind.ByKind.{ByKind}
use Rattle.pcef_index.specs.declared.by_kind.ByVersion.{ByVersion}
use Rattle.pcef_index.specs.declared.kinds.Class.{Class}
use Rattle.pcef_index.specs.declared.kinds.Kind.{Kind}
use Rattle.pcef_index.specs.declared.kinds.Version.{Version}
use Rattle.pcef_index.specs.declared.lines.Line.{Line}
use Rattle.pcef_index.specs.declared.sieve.Sieve.{Sieve}
use Rattle.pcef_index.specs.private.AllSieves.{BaseValue}
use Rattle.pcef_index.specs.private.ByKinds.{in_class, in_version, of_kind}
use Rattle.pcef_index.specs.private.Lines.{stands}
use Rattle.pcef_index.specs.private.Runs.{rule_at}

-- the word of a block, or all bits
abbrev pub standing_at : List ℕ → ℕ → ℕ
standing_at words block = get_or words block 18446744073709551615

-- a word has the bits of the lines of a block whose rules stand
abbrev pub HasStanding : List (Option ℕ) → List Line → List ℕ → ℕ → ℕ → Type 0
HasStanding places lines numbers block word =
    (i k : ℕ) → i < 64 → rule_at lines numbers (block * 64 + i) ≡ Some k → stands places k ≡ true → bit_at word i ≡ 1

abbrev pub AreStanding : List (Option ℕ) → List Line → List ℕ → List ℕ → Type 0
AreStanding places lines numbers words = (block : ℕ) → HasStanding places lines numbers block (standing_at words block)

-- the words are so for the lines of a sieve, if there is one
abbrev pub StandIn : List (Option ℕ) → List Line → Option (Box Sieve) → List ℕ → Type 0
StandIn places lines sieve words = (s : Box Sieve) → sieve ≡ Some s → AreStanding places lines s.value.numbers.items words

abbrev pub StandInClasses : List (Option ℕ) → List Line → ByClass (Option (Box Sieve)) → ByClass (Vec ℕ Global) → Type 0
StandInClasses places lines sieves words =
    (class : Class) → StandIn places lines (in_class sieves class) (in_class words class).items

abbrev pub StandInVersions : List (Option ℕ) → List Line → ByVersion (Option (Box Sieve)) → ByVersion (Vec ℕ Global) → Type 0
StandInVersions places lines sieves words =
    (version : Version) → StandInClasses places lines (in_version sieves version) (in_version words version)

-- the words of a kind, if there are any
abbrev pub words_for : Option (Box (ByKind (Vec ℕ Global))) → Kind → List ℕ
words_for None kind = []
words_for (Some words) kind = (of_kind words.value kind).items

-- the words have the bits of all lines whose rules stand, for each kind
abbrev pub StandFor : List (Option ℕ) → List Line → ByKind (Option (Box Sieve)) → Option (Box (ByKind (Vec ℕ Global))) → Type 0
StandFor places lines sieves words = (kind : Kind) → StandIn places lines (of_kind sieves kind) (words_for words kind)

-- the same for the lines of a base
abbrev pub AreStandingIn : BaseValue → List (Option ℕ) → Option (Box (ByKind (Vec ℕ Global))) → Type 0
AreStandingIn base places words = StandFor places base.lines base.sieves words
