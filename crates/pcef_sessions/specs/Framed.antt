-- Frames in an input, one after the other (own choice).
use Rattle.std.specs.Prelude.{ℕ, ◌≡◌, ◌⊎◌, ◌+◌, ◌<◌, ◌≤◌, List, [], ◌∷◌, ◌++◌, length, take}
use Rattle.std.specs.Int.{w32, from_be_bytes}

-- a frame has 1 to 262,210 octets; four octets before it say how many, the highest first
abbrev pub IsLength : ℕ → Type 0
IsLength many = (1 ≤ many) × (many ≤ 262210)

abbrev pub length_said : List ℕ → ℕ
length_said head = from_be_bytes w32 head

-- octets begin with a frame, and others follow it
abbrev pub BeginsWith : List ℕ → List ℕ → List ℕ → Type 0
BeginsWith octets frame others =
    (head : List ℕ) × (length head ≡ 4) × (length_said head ≡ length frame) × IsLength (length frame) × (octets ≡ head ++ (frame ++ others))

-- octets are these frames, one after the other, and a rest
abbrev pub AreFrames : List ℕ → List (List ℕ) → List ℕ → Type 0
AreFrames octets [] rest = octets ≡ rest
AreFrames octets (frame ∷ frames) rest = (others : List ℕ) × BeginsWith octets frame others × AreFrames others frames rest

-- a frame has begun, and isn't whole
abbrev pub IsPart : List ℕ → Type 0
IsPart octets =
    (0 < length octets) × ((length octets < 4) ⊎ (IsLength (length_said (take 4 octets)) × (length octets < 4 + length_said (take 4 octets))))

-- no frame has the length that the octets begin with
abbrev pub HasBadLength : List ℕ → Type 0
HasBadLength octets = (4 ≤ length octets) × ¬ (IsLength (length_said (take 4 octets)))

-- more may come: a frame has begun, or none
abbrev pub IsUnfinished : List ℕ → Type 0
IsUnfinished octets = (octets ≡ []) ⊎ IsPart octets
