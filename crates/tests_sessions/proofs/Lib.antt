pub mod UnmatchedRows
