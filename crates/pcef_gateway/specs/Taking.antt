-- The packets that a worker took.
use Rattle.std.specs.Prelude.{◌++◌, List, map}
use Rattle.pcef_packet.specs.declared.header.Header.{Header}
use Rattle.pcef_worker.specs.Working.{WorkerModel}
use Rattle.pcef_gateway.specs.Serving.{item_header}

-- those of the rows that it has handed over, and of those that wait
abbrev pub taken_headers : WorkerModel → List Header
taken_headers w = map item_header (w.rows ++ w.waiting)
