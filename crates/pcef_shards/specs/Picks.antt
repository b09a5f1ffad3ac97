-- Which thread a line goes to (own choice).
use Rattle.std.specs.Prelude.{ℕ, ◌==◌, ◌%◌, ◌||◌, List, [], ◌∷◌, length, take, Bool, nat_le, if◌then◌else◌}
use Rattle.std.specs.List.{list_any}
use Rattle.std.specs.Hash.DefaultHasher.{finish, write}
use Rattle.std.specs.RandomState.{initial_hasher}
use Rattle.std.specs.declared.hash.RandomState.{RandomState}

-- what stands before the first space
abbrev pub before_space : List ℕ → List ℕ
before_space [] = []
before_space (b ∷ line) = if b == 32 then [] else b ∷ before_space line

-- a name has at most 64 octets, so the first 65 of a line suffice
abbrev pub front_of : List ℕ → List ℕ
front_of line = before_space (take 65 line)

-- whatever follows these octets, the front of the line is theirs
abbrev pub has_space : List ℕ → Bool
has_space octets = list_any (λ b. b == 32) octets

abbrev pub is_settled : List ℕ → Bool
is_settled octets = nat_le 65 (length octets) || has_space octets

-- the number of the thread for a name, below `threads`
abbrev pub thread_of_name : RandomState → ℕ → List ℕ → ℕ
thread_of_name keys threads name = finish (write (initial_hasher keys) name) % threads

-- and for a line
abbrev pub thread_of : RandomState → ℕ → List ℕ → ℕ
thread_of keys threads line = thread_of_name keys threads (front_of line)
