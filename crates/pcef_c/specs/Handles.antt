-- What lies at the address of a handle.
use Rattle.std.specs.Prelude.{ℕ, ◌≡◌, None}
use base.Fml.{Fml}
use base.Fraction.{full_share}
use denote.Param.{layout}
use denote.RawPtr.{Ptr, lies_at, room_at}
use prog.Memory.{capped, size}
use Rattle.pcef_handle.specs.declared.held.Handle.{Handle}
use Rattle.pcef_handle.specs.declared.worker.WorkerHandle.{WorkerHandle}
use Rattle.pcef_handle.specs.contracts.held.Handle.{the_row}
use Rattle.pcef_handle.specs.contracts.worker.WorkerHandle.{the_row as the_workers_row}
use Rattle.pcef_c.specs.contracts.gx_port.GxPort.{the_row as the_ports_row}
use Rattle.pcef_c.specs.declared.gx_port.GxPort.{GxPort}

-- room for a handle at p, whatever it holds
abbrev pub room : Ptr → Fml
room p = room_at the_row p

-- a handle h lies at p, and this is all of it
abbrev pub lies : Ptr → Handle → Fml
lies p h = lies_at the_row full_share p h

-- how many octets it needs
abbrev pub handle_size : ℕ
handle_size = capped (size (layout the_row))

-- the same of a worker's handle
abbrev pub worker_room : Ptr → Fml
worker_room p = room_at the_workers_row p

abbrev pub worker_lies : Ptr → WorkerHandle → Fml
worker_lies p w = lies_at the_workers_row full_share p w

abbrev pub worker_size : ℕ
worker_size = capped (size (layout the_workers_row))

-- and of a handle over Gx
abbrev pub gx_room : Ptr → Fml
gx_room p = room_at the_ports_row p

abbrev pub gx_lies : Ptr → GxPort → Fml
gx_lies p g = lies_at the_ports_row full_share p g

abbrev pub gx_size : ℕ
gx_size = capped (size (layout the_ports_row))

-- a handle without a session, whose first one gets number 0
abbrev pub IsEmpty : Handle → Type 0
IsEmpty h = (h.session ≡ None) × (h.next_number ≡ 0)
