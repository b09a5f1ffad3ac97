-- What is said of a fault to people (own choice).
use Rattle.std.specs.Prelude.{◌≡◌, ◌++◌, List, codes, ℕ}
use Rattle.pcef_profile.specs.declared.fault.ReadProfileFault.{ReadProfileFault}
use Rattle.pcef_profile.specs.declared.fault.ReadProfileFault.TheVariants.{NotToml, UnknownKey, Missing, BadValue, UnknownQci, DefaultIsGbr, NoMemory}

abbrev pub profile_fault_name : ReadProfileFault → List ℕ
profile_fault_name NotToml = codes "NotToml"
profile_fault_name UnknownKey = codes "UnknownKey"
profile_fault_name Missing = codes "Missing"
profile_fault_name BadValue = codes "BadValue"
profile_fault_name UnknownQci = codes "UnknownQci"
profile_fault_name DefaultIsGbr = codes "DefaultIsGbr"
profile_fault_name NoMemory = codes "NoMemory"

-- the fault's name, and something after it
abbrev pub Explains : ReadProfileFault → List ℕ → Type 0
Explains fault line = (more : List ℕ) × (line ≡ (profile_fault_name fault ++ codes ": ") ++ more)
