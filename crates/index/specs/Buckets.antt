-- The buckets of an index: which one an ID falls into, the newest entry of one, and how a table notes an entry.
use Rattle.std.specs.Prelude.{List, ℕ, zero, suc, ◌*◌, ◌/◌, ◌%◌, eqb, get_or, if◌then◌else◌, Option, Some, None}
use Rattle.rules.specs.Reading.{Entry}
use Rattle.rules.specs.Stores.{id_in}
use Rattle.image.specs.Answer.{no_entry}

-- the bucket of an ID, of so many buckets: the top bits of the low 32 of its product with 2^32 over the golden ratio, so that IDs in a row
-- spread, and IDs that differ in their top bits alone do too
unfoldable pub bucket_of : (buckets id : ℕ) → ℕ
bucket_of buckets id = id * 2654435769 / (4294967296 / buckets) % buckets

-- the last of the first n entries whose ID falls into bucket b (the ID field of a done is the reserved one)
unfoldable pub last_in : (buckets b n : ℕ) → List Entry → Option ℕ
last_in buckets b zero entries = None
last_in buckets b (suc n) entries =
    if eqb (bucket_of buckets (id_in (get_or entries n no_entry).head)) b then Some n else last_in buckets b n entries

-- how the tables note it: 0 is no entry, n + 1 entry n
unfoldable pub link_to : Option ℕ → ℕ
link_to None = 0
link_to (Some n) = suc n
