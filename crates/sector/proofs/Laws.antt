-- What a caller learns of a sector that was read: how small it is, and that no entry ended the reading.
-- Assumes nothing.
use Rattle.std.specs.Prelude.{Err}
use mathlib.Core.Path.{◌≡◌, refl}
use Prim.Native.Nat.{ℕ, ◌-◌, ◌<◌, ◌≤◌}
use native.Mathlib.Omega.{arith}
use Rattle.rules.specs.Ground.{Sector, kept_from_deletions}
use Rattle.rules.specs.Look as rule
use Rattle.rules.specs.Look.{start}
use Rattle.rules.specs.Reading.{entries_of, end_verdict, after_all}
use Rattle.rules.proofs.Blocks.Place.{place-data, Reading, reading-of, end_none}
use Rattle.entry.specs.declared.Scan.{Scan}
use Rattle.entry.specs.Answer.{scan_as, verdict_as, Small}
use Rattle.entry.proofs.Laws.{err-reason}
use Rattle.sector.specs.Answer.{entries_as}
use Rattle.sector.proofs.Standing.{Standing, stand-below}

-- ---- what ended the reading, and how small it is

-- What the entries of a sector come to, within the sector's blocks.
pub record Bounded (B : ℕ) (scan : Scan) : Type 0 where
  pub small : Small scan
  pub needs : scan.needs ≤ B - kept_from_deletions
  pub data_end : scan.data_end < B

pub stand-bounded : {B cycle : ℕ} {sector : Sector} {scan : rule.Scan} {p : ℕ} → B ≤ 4096 → Standing B cycle sector scan p → Bounded B (scan_as scan)
stand-bounded {B} {scan = scan} few s =
    let needs : scan.needs ≤ B - kept_from_deletions = omega (arith, s.place.room) in
    let end : scan.data_end < B = omega (arith, stand-below s, place-data s.place) in
    record { small = record { needs = omega arith; data_end = omega arith }; needs = needs; data_end = end }

module _ (B cycle : ℕ) (sector : Sector) (enough : 8 ≤ B) where
  pub entries-bounded : B ≤ 4096 → Bounded B (entries_as B cycle sector).scan
  entries-bounded few =
      let all : Reading B cycle sector (B - 2) start (entries_of B cycle sector) = reading-of B cycle sector enough in
      stand-bounded few (record { taken = entries_of B cycle sector; took = all.took; sum = refl; place = all.place })

  -- what ended the reading is no entry
  pub ended-no-entry : let es = entries_of B cycle sector in
      Err (entries_as B cycle sector).ended ≡ verdict_as (after_all start es) (end_verdict B cycle sector es)
  ended-no-entry = err-reason _ _ (end_none B cycle sector enough)
