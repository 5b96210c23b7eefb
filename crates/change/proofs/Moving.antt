-- Turns from rest: each ends at rest, in the next sector; and the loop's invariant, that whatever finishes the turns still due
-- finishes them all.
-- Assumes nothing.
use mathlib.Core.Path.{◌≡◌, refl, sym, ap, subst, ◌∙◌}
use mathlib.Core.Bool.{true}
use mathlib.Core.List.{List, [], ◌∷◌}
use mathlib.Core.Option.{Option, some}
use Prim.Native.Nat.{ℕ, suc, ◌<◌, ◌≤◌}
use native.Mathlib.Omega.{arith}
use lib.ListN.{length, length-set}
use Rattle.std.specs.Prelude.{Result, Ok, Err, is_err}
use Rattle.rules.specs.Notation.{Each, concat}
use Rattle.rules.specs.Ground.{max_sectors}
use Rattle.rules.specs.Reading.{Entry, View}
use Rattle.rules.specs.Meaning.{at_rest, Is, state_of, view_at, next, lookup}
use Rattle.rules.specs.Stores.{nothing, turn, turns, moved}
use Rattle.rules.proofs.Ring.Order.{all_but_two, ring, next-lt}
use Rattle.rules.proofs.Ring.History.{entries_each}
use Rattle.rules.proofs.Ring.States.{state-is, is_state}
use Rattle.rules.proofs.Blocks.OnBytes.{Lies, inside-lie}
use Rattle.rules.proofs.Crash.Cuts.{Goes}
use Rattle.rules.proofs.Crash.Standing.{turned, Stands, Rests}
use Rattle.rules.proofs.Crash.Turning.{turn-goes}
use Rattle.layout.specs.declared.Geometry.{Geometry}
use Rattle.layout.specs.Numbers.{sector_no}
use Rattle.layout.specs.Geometry.{blocks_of, sectors_of}
use Rattle.image.specs.declared.active.Active.{Active}
use Rattle.image.specs.Answer.{active_as}
use Rattle.image.proofs.Sectors.{views-count}
use Rattle.image.proofs.Laws.{rest-inside, entries-counted}
use Rattle.live.specs.declared.counts.EntryCounts.{EntryCounts}
use Rattle.live.specs.Counts.{Counts, counts_turned}
use Rattle.live.proofs.Counting.{counts-turned}
use Rattle.budget.specs.declared.Cut.{Cut}
use Rattle.budget.specs.declared.Writer.{Writer}
use Rattle.budget.specs.Budget.{held, shown, Did}
use Rattle.budget.proofs.Laws.{whole_image, did_none, did-whole, did-shown, did-and-then, did-and-then-cut}
use Rattle.turn.specs.Turn.{Turned}
use Rattle.change.specs.Ready.{Opened}

-- ---- one turn from rest

module _ (writer : Writer) (w : ℕ) (rest : state_of (shown writer) ≡ some (at_rest w)) where
  abbrev g : Geometry
  g = writer.geometry

  views : List View
  views = shown writer

  spare : ℕ
  spare = next (sectors_of g) w

  oldest : List Entry
  oldest = (view_at views (next (sectors_of g) spare)).entries

  others : List (List Entry)
  others = entries_each (all_but_two spare views)

  told : ℕ → Option Entry
  told id = lookup id (concat (oldest ∷ others))

  rests : Rests (sectors_of g) w (oldest ∷ others) views
  unfolding views spare oldest others Is
  rests =
      let count : length views ≡ sectors_of g = views-count g writer.image.now in
      let inside : spare < length views = omega (arith, count, next-lt (sectors_of g) w (rest-inside g writer.image.now w rest)) in
      record {
        sized = count;
        is = state-is views (at_rest w) rest;
        held =
            ap entries_each (ring spare views inside (omega (arith, count, writer.geometry.sound.sectors_from))).oldest
            ∙ ap (λ (n : ℕ). (view_at views (next n spare)).entries ∷ others) count;
      }

  goes : Goes (blocks_of g) (sectors_of g) (turn (blocks_of g) (sectors_of g) w) (held writer) (Stands (sectors_of g) told)
      (Rests (sectors_of g) spare (turned (oldest ∷ others)))
  unfolding views spare oldest others told
  goes =
      turn-goes (blocks_of g) (sectors_of g) writer.geometry.sound.blocks_from writer.geometry.sound.blocks_to writer.geometry.sound.sectors_from told (held writer) (λ id. refl) (whole_image writer)
      (rest-inside g writer.image.now w rest) rests

  pub turn-lies : Each (Lies (blocks_of g) (sectors_of g)) (turn (blocks_of g) (sectors_of g) w (held writer))
  turn-lies = inside-lie goes.inside

  pub turn-rests : {T : Type 0} {after : Writer} {x : T} → Did writer (turn (blocks_of g) (sectors_of g) w (held writer)) after (Ok x)
      → state_of (shown after) ≡ some (at_rest (next (sectors_of g) w))
  unfolding spare Is
  turn-rests {after = after} did =
      is_state (shown after) (at_rest spare)
      (subst (λ (vs : List View). Is vs (at_rest spare)) (sym (did-shown did (did-whole did turn-lies refl))) goes.whole.is)

-- the sector after the working one is the spare, which has no entry
pub rests-spare : (writer : Writer) (w : ℕ) → state_of (shown writer) ≡ some (at_rest w)
    → (view_at (shown writer) (next (sectors_of writer.geometry) w)).entries ≡ []
unfolding Is
rests-spare writer w rest =
    ap (λ (n : ℕ). (view_at (shown writer) (next n w)).entries) (sym (views-count writer.geometry writer.image.now))
    ∙ (state-is (shown writer) (at_rest w) rest).unused

-- ---- so many of them

-- Some of `count` turns from sector w are made, and `due` are left, from the sector that is active now.
pub record Turning (w count : ℕ) (begun now : Writer) (active : Active) (counts : EntryCounts) (due : ℕ) : Type 0 where
  pub geometry : now.geometry ≡ begun.geometry
  pub rests : Opened now active
  pub counted : Counts (shown now) counts
  pub room : length counts.0 ≡ max_sectors
  pub onward : moved (sectors_of begun.geometry) due (sector_no active.sector) ≡ moved (sectors_of begun.geometry) count w
  pub finish : (after : Writer) (r : Result Active Cut)
      → Did now (turns (blocks_of now.geometry) (sectors_of now.geometry) due (sector_no active.sector) (held now)) after r
      → Did begun (turns (blocks_of begun.geometry) (sectors_of begun.geometry) count w (held begun)) after r

module _ (count : ℕ) (begun : Writer) where
  pub turning-none : {active : Active} {counts : EntryCounts} → Opened begun active → Counts (shown begun) counts → length counts.0 ≡ max_sectors
      → Turning (sector_no active.sector) count begun begun active counts count
  turning-none rests counted room =
      record { geometry = refl; rests = rests; counted = counted; room = room; onward = refl; finish = λ after r did. did }

  module _ {w : ℕ} {now : Writer} {active : Active} {counts : EntryCounts} where
    pub turning-end : Turning w count begun now active counts 0
        → Did begun (turns (blocks_of begun.geometry) (sectors_of begun.geometry) count w (held begun)) now (Ok active)
    unfolding turns nothing
    turning-end t = t.finish now (Ok active) (did_none now active)

    module _ {rest : ℕ} (t : Turning w count begun now active counts (suc rest)) where
      -- the next one was cut
      pub turning-cut : {after : Writer} {e : Cut} {r : Result Active Cut}
          → Turned (next (sectors_of now.geometry) (sector_no active.sector)) now (turn (blocks_of now.geometry) (sectors_of now.geometry) (sector_no active.sector) (held now)) after (Err e)
          → is_err r ≡ true → Did begun (turns (blocks_of begun.geometry) (sectors_of begun.geometry) count w (held begun)) after r
      unfolding turns
      turning-cut {after} {r = r} turned cut =
          let B : ℕ = blocks_of now.geometry in
          let S : ℕ = sectors_of now.geometry in
          t.finish after r
          (did-and-then-cut (turn B S (sector_no active.sector)) (turns B S rest (next S (sector_no active.sector))) (held now) turned.did cut)

      -- it was made
      module _ {after : Writer} {active' : Active}
          (turned : Turned (next (sectors_of now.geometry) (sector_no active.sector)) now (turn (blocks_of now.geometry) (sectors_of now.geometry) (sector_no active.sector) (held now)) after (Ok active')) where
        abbrev u : ℕ
        u = next (sectors_of now.geometry) (sector_no active.sector)

        here : sector_no active'.sector ≡ u
        here = ap (λ (x : Active). sector_no x.sector) turned.moved.told

        inside : u < sectors_of now.geometry
        inside = next-lt (sectors_of now.geometry) (sector_no active.sector) (rest-inside now.geometry now.image.now (sector_no active.sector) t.rests.rest)

        -- as large as the image was at first
        sized : after.geometry ≡ begun.geometry
        sized = turned.did.geometry ∙ t.geometry

        pub turned-inside : sector_no active'.sector < sectors_of begun.geometry
        turned-inside = omega (arith, here, inside, ap sectors_of t.geometry)

        pub turned-few : active'.entries ≤ 4096
        turned-few =
            let few = (entries-counted after.geometry after.image.now u (omega (arith, inside, ap sectors_of turned.did.geometry))).few in
            omega (arith, ap (λ (x : Active). x.entries) turned.moved.told, few, after.geometry.sound.blocks_to)

        turned-rests : Opened after active'
        turned-rests =
            record {
              carried = record {
                inside = omega (arith, turned-inside, ap sectors_of sized);
                told = turned.moved.told ∙ ap (λ (s : ℕ). active_as s (view_at (shown after) s)) (sym here);
              };
              rest = turn-rests now (sector_no active.sector) t.rests.rest turned.did ∙ ap (λ (s : ℕ). some (at_rest s)) (sym here);
            }

        pub turning-more : {counts' : EntryCounts} → counts' ≡ counts_turned counts (sector_no active'.sector) (next (sectors_of begun.geometry) (sector_no active'.sector)) active'.entries
            → Turning w count begun after active' counts' rest
        unfolding turns moved
        turning-more {counts'} same =
            let m = turned.moved in
            let views : length (shown now) ≡ sectors_of now.geometry = views-count now.geometry now.image.now in
            let views' : length (shown after) ≡ length (shown now) = views-count after.geometry after.image.now ∙ ap sectors_of turned.did.geometry ∙ sym views in
            let noted : counts' ≡ counts_turned counts u (next (sectors_of now.geometry) u) active'.entries =
            same
            ∙ ap (λ (s : ℕ). counts_turned counts s (next (sectors_of begun.geometry) s) active'.entries) here
            ∙ ap (λ (g : Geometry). counts_turned counts u (next (sectors_of g) u) active'.entries) (sym t.geometry) in
            record {
              geometry = sized;
              rests = turned-rests;
              counted =
                  rw noted
                  (counts-turned u (next (sectors_of now.geometry) u) active'.entries t.room (omega (arith, views, now.geometry.sound.sectors_to)) views'
                  (ap (λ (x : Active). x.entries) m.told) m.unused m.others t.counted);
              room = ap (λ (c : EntryCounts). length c.0) same ∙ simp length-set t.room;
              onward =
                  ap (moved (sectors_of begun.geometry) rest) (here ∙ ap (λ (g : Geometry). next (sectors_of g) (sector_no active.sector)) t.geometry)
                  ∙ t.onward;
              finish = λ last r did.
                  t.finish last r
                  (did-and-then (turn (blocks_of now.geometry) (sectors_of now.geometry) (sector_no active.sector)) (λ (g : Geometry). turns (blocks_of g) (sectors_of g) rest u)
                  (turn-lies now (sector_no active.sector) t.rests.rest) turned.did
                  (subst (λ (s : ℕ). Did after (turns (blocks_of after.geometry) (sectors_of after.geometry) rest s (held after)) last r) here did));
            }
