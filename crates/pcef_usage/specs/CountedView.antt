-- How a journal and its counters are kept.
use Rattle.pcef_usage.specs.Counted.{Counted}
use Rattle.pcef_usage.specs.declared.counted.CountedJournal.TheInside.{Inside}

abbrev pub counted_of : Inside → Counted
counted_of c = record { journal = c.journal.entries; forgotten = c.journal.forgotten; states = c.usage; room = c.journal.room }
