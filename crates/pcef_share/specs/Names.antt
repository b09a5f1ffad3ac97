-- What the name of a session stands for.
use Rattle.std.specs.Prelude.{ℕ, false, List, [], slice_index}
use Rattle.logbook.specs.Pages.{Book}
use Rattle.pcef_packet.specs.declared.header.Addr.TheVariants.{V4}
use Rattle.pcef_model.specs.Setting.{Setting}

-- the name of a new ledger by its number: slots 0 to 7, rows, commands
abbrev pub ledger_at : List ℕ → ℕ → ℕ
ledger_at ledgers k = slice_index ledgers k

-- a setting of no session
abbrev pub no_setting : Setting
no_setting = record {
  ue = V4 0;
  default_qos = record {
    qci = record { 0 = 0 };
    arp = record { level = 0; capability = false; vulnerability = false };
  };
  capacity = record { up = 0; down = 0 };
  qcis = [];
  rows = 0;
  commands = 0;
  catalog = [];
}

-- a book of no history
abbrev pub no_book : Book
no_book = record { number = 0; log_name = 0; cells_name = 0 }
