-- What a caller learns of the least number of turns: what is due, that the turns are below S, and that they leave room.
-- Assumes nothing.
use mathlib.Core.Path.{◌≡◌, refl}
use mathlib.Core.List.{List}
use mathlib.Core.Option.{some}
use Rattle.std.specs.Prelude.{Some, None}
use Prim.Native.Nat.{ℕ, ◌+◌, ◌<◌, ◌≤◌}
use native.Mathlib.Omega.{arith}
use Rattle.rules.specs.Notation.{Each, concat}
use Rattle.rules.specs.Ground.{Image, image_of}
use Rattle.rules.specs.Look.{need_of, start}
use Rattle.rules.specs.Reading.{Entry, View, after_all}
use Rattle.rules.specs.Meaning.{at_rest, Is, views_of, view_at, state_of, next, all_but, lookup, needs_of}
use Rattle.rules.specs.Stores.{apply, turns, moved, least_turns, change}
use Rattle.rules.specs.Calls.{refuse, no_room, make, change_on}
use Rattle.rules.proofs.Blocks.OnBytes.{image-of-bytes}
use Rattle.rules.proofs.Ring.History.{entries_each}
use Rattle.rules.proofs.Ring.States.{state-is}
use Rattle.rules.proofs.Ring.Fits.{length-counting, turns-least, least-turns}
use Rattle.rules.proofs.Crash.Changing.{turns-room}
use Rattle.rules.proofs.Crash.Resting.{change-none, change-some}
use Rattle.layout.specs.declared.Geometry.{Geometry}
use Rattle.layout.specs.Geometry.{blocks_of, sectors_of, Backs}
use Rattle.image.specs.Answer.{views_in}
use Rattle.layout.specs.Options.{option_as}
use Rattle.layout.proofs.Options.{as-some, as-none}
use Rattle.image.proofs.Sectors.{views-count}
use Rattle.image.proofs.Laws.{rest-inside}

-- with no turn, by the needs of the open sector
pub fits-open : (need limit w : ℕ) (views : List View) → needs_of (view_at views w).entries + need ≤ limit → least_turns need limit w views ≡ some 0
fits-open need limit w views room =
    least-turns need limit w views 0 (record { within = omega arith; fits = room; least = λ t b. absurd (omega arith) })

-- what is due of a change
module _ (g : Geometry) (bytes : List ℕ) (w limit : ℕ) (e : Entry) where
  pub no-room-due : option_as (least_turns (need_of e.head) limit w (views_in g bytes)) ≡ None
      → change_on (blocks_of g) (sectors_of g) w limit e (image_of (blocks_of g) (sectors_of g) bytes) ≡ refuse no_room
  no-room-due told = change-none (blocks_of g) (sectors_of g) w limit e _ (as-none _ told)

  pub after-due : {t : ℕ} → option_as (least_turns (need_of e.head) limit w (views_in g bytes)) ≡ Some t
      → let im : Image = image_of (blocks_of g) (sectors_of g) bytes in
      change_on (blocks_of g) (sectors_of g) w limit e im ≡ make (change (blocks_of g) (sectors_of g) t w e im) t
  after-due {t} told = change-some (blocks_of g) (sectors_of g) w limit e _ t (as-some _ told)

module _ (g : Geometry) (bytes : List ℕ) (need limit w : ℕ) {t : ℕ} (told : option_as (least_turns need limit w (views_in g bytes)) ≡ Some t) where
  -- "t from 0 to S-1"
  pub turns-below : w < sectors_of g → t < sectors_of g
  turns-below here =
      let count = length-counting w (views_in g bytes) (omega (arith, views-count g bytes)) in
      omega (arith, (turns-least need limit w (views_in g bytes) (as-some _ told)).within, count, views-count g bytes)

  -- after the turns it fits the sector that is open then
  pub room_after : Backs g bytes → Each (λ b. b < 256) bytes → state_of (views_in g bytes) ≡ some (at_rest w)
      → let B : ℕ = blocks_of g in let S : ℕ = sectors_of g in let im : Image = image_of B S bytes in
      (after_all start (view_at (views_of B (apply (turns B S t w im) im)) (moved S t w)).entries).needs + need ≤ limit
  unfolding Is
  room_after backs typed rest =
      let ring : List (List Entry) = entries_each (all_but (next (sectors_of g) w) (views_in g bytes)) in
      turns-room (blocks_of g) (sectors_of g) g.sound.blocks_from g.sound.blocks_to g.sound.sectors_from (λ id. lookup id (concat ring))
      need limit t (image_of (blocks_of g) (sectors_of g) bytes)
      (λ id. refl)
      (image-of-bytes (blocks_of g) (sectors_of g) bytes typed backs.sized)
      (rest-inside g bytes w rest)
      (record { sized = views-count g bytes; is = state-is (views_in g bytes) (at_rest w) rest; held = refl })
      (as-some _ told)
