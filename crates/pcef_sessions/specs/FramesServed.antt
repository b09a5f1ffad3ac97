-- What is written for many sessions' frames (own choice).
use Rattle.std.specs.Prelude.{ℕ, ◌≡◌, ◌⊎◌, Bool, List, [], ◌∷◌, ◌++◌, map, Option, Result, Ok, Err}
use Rattle.std.specs.Io.KnownBytes.{Appends, Consumes, IsAtEnd}
use Rattle.pcef_model.specs.Setting.{Setting}
use Rattle.pcef_script.specs.declared.fault.ScriptFault.{ScriptFault}
use Rattle.pcef_script.specs.declared.fault.ScriptFault.TheVariants as fault
use Rattle.pcef_base.specs.Writing.{AppendsFront}
use Rattle.pcef_sessions.specs.declared.frame_fault.FrameFault.TheVariants.{BadLength, CutFrame}
use Rattle.pcef_sessions.specs.Framed.{AreFrames, HasBadLength, IsPart, IsUnfinished}
use Rattle.pcef_sessions.specs.FrameSayings.{malformed}
use Rattle.pcef_sessions.specs.Frames.{Meaning, meaning}
use Rattle.pcef_sessions.specs.Sayings.{Said}
use Rattle.pcef_sessions.specs.Served.{AreSaid, all_bytes, any_fault}
use Rattle.pcef_sessions.specs.Under.{Session}

-- ---- frames and lines
-- the lines that frames mean, in their order
abbrev pub lines_meant : List Meaning → List (List ℕ)
lines_meant [] = []
lines_meant (Ok line ∷ more) = line ∷ lines_meant more
lines_meant (Err why ∷ more) = lines_meant more

-- the answers to the lines that frames mean, and between them, each in its place, those to malformed frames
abbrev pub woven : List Meaning → List Said → List Said
woven [] saids = []
woven (Err why ∷ more) saids = malformed why ∷ woven more saids
woven (Ok line ∷ more) [] = []
woven (Ok line ∷ more) (said ∷ saids) = said ∷ woven more saids

-- the answers to frames were written: those of the lines that they mean, and the malformed ones'; or some of their
-- bytes, from the first on
abbrev pub WroteFrames : Setting → List Meaning → Bool → Option (List ℕ) → Option (List ℕ) → Type 0
WroteFrames p meant any old new =
    (saids : List Said) × (after : List ℕ → Option Session) × AreSaid p (lines_meant meant) saids after × (any ≡ any_fault (woven meant saids))
    × Appends old new (all_bytes (woven meant saids))

abbrev pub WroteFramesFront : Setting → List Meaning → Option (List ℕ) → Option (List ℕ) → Type 0
WroteFramesFront p meant old new =
    (saids : List Said) × (after : List ℕ → Option Session) × AreSaid p (lines_meant meant) saids after × AppendsFront old new (all_bytes (woven meant saids))

-- ---- runs
-- the run ends with its last whole frame, with a frame that the input ends in, or before a length that no frame has,
-- behind which nothing can be read
abbrev pub EndsWith : List ℕ → Option (List ℕ) → List Meaning → Type 0
EndsWith rest left last =
    ((rest ≡ []) × IsAtEnd left × (last ≡ [])) ⊎ (IsPart rest × IsAtEnd left × (last ≡ Err CutFrame ∷ []))
    ⊎ (HasBadLength rest × (last ≡ Err BadLength ∷ []))

-- What was written for the input that was read: at its end the answers to all frames, and the result says whether one is
-- malformed or its line at fault. Where the reader fails, it is the answers to the whole frames before; where memory runs
-- out, those to the frames before that one; where the writer fails, some of the bytes of the answers. Where no session of
-- the profile can be opened, nothing is read or written.
abbrev pub ServedFrames : Setting → Result Bool ScriptFault → Option (List ℕ) → Option (List ℕ) → Option (List ℕ) → List ℕ → Type 0
ServedFrames p (Ok any) old new left input =
    (frames : List (List ℕ)) × (rest : List ℕ) × (last : List Meaning) × AreFrames input frames rest × EndsWith rest left last
    × WroteFrames p (map meaning frames ++ last) any old new
ServedFrames p (Err fault.Read) old new left input =
    (frames : List (List ℕ)) × (rest : List ℕ) × (any : Bool) × AreFrames input frames rest × IsUnfinished rest × WroteFrames p (map meaning frames) any old new
ServedFrames p (Err fault.NoMemory) old new left input =
    (frames : List (List ℕ)) × (rest : List ℕ) × (any : Bool) × AreFrames input frames rest × WroteFrames p (map meaning frames) any old new
ServedFrames p (Err fault.Write) old new left input =
    (frames : List (List ℕ)) × (rest : List ℕ) × (last : List Meaning) × AreFrames input frames rest × ((last ≡ []) ⊎ EndsWith rest left last)
    × WroteFramesFront p (map meaning frames ++ last) old new
ServedFrames p (Err (fault.Profile f)) old new left input = (input ≡ []) × Appends old new []
ServedFrames p (Err fault.TooMuch) old new left input = ⊥

-- from a reader with `before` still to come and a writer with `old` written, to `left` and `new`
abbrev pub ServesFrames : Setting → Result Bool ScriptFault → Option (List ℕ) → Option (List ℕ) → Option (List ℕ) → Option (List ℕ) → Type 0
ServesFrames p result before left old new =
    (input : List ℕ) × Consumes before left input × ServedFrames p result old new left input
