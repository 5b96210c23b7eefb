-- What an index finds its answers among.
use Rattle.std.specs.Prelude.{List, ℕ}
use Rattle.rules.specs.Reading.{Entry}
use Rattle.index.specs.declared.Index.{Index}
use Rattle.index.specs.Tables.{entries_at}

-- the entries of its sector
abbrev pub entries_of : {n : ℕ} → Index n → List Entry
entries_of index = entries_at index.image index.sector
