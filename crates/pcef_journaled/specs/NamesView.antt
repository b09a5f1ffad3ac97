-- What callers see of names that are kept.
use Rattle.std.specs.Prelude.{◌-◌, ◌^◌, length, min}
use Rattle.indexmap.specs.IndexSet.{spare}
use Rattle.pcef_journaled.specs.declared.names.Names.TheInside.{Inside}
use Rattle.pcef_journaled.specs.KeptNames.{KeptNames}

-- a place takes four octets
abbrev pub kept_names : Inside → KeptNames
kept_names n =
    record {
      names = n.names.keys;
      room = min (spare n.names) (2 ^ 32 - length n.names.keys);
    }
