-- How many stores each step makes: a format exactly 1 + S x B, and every other at most so many that a call's are far below
-- 2^32, on any image. The bounds are crude: B is at most 4,096, and a step stores at most so many entries of so many blocks.
-- Assumes nothing.
use mathlib.Core.Path.{◌≡◌, refl, ap}
use mathlib.Core.Bool.{Bool, true, false}
use mathlib.Core.List.{List, [], ◌∷◌}
use Prim.Native.Nat.{ℕ, zero, suc, ◌+◌, ◌*◌, ◌<◌, ◌≤◌, ◌^◌}
use native.Mathlib.Numerals.{bound}
use native.Mathlib.Omega.{arith}
use lib.ListN.{length, length-append}
use Rattle.rules.specs.Notation.{Each, empty, each}
use Rattle.rules.specs.Ground.{Block, Image}
use Rattle.rules.specs.Reading.{Entry}
use Rattle.rules.specs.Meaning.{State, at_rest, not_reopened, mid_turn, next}
use Rattle.rules.specs.Stores.{Plan, apply, nothing, ◌and_then◌, data_stores, blank_if, append, append_all, reopen, close_sector, done_entry, survivors, finish_turn, turn, turns, moved, mount, change}
use Rattle.rules.proofs.Due.Few.{IsShort, AreFew, few-survivors}

length-data-stores : (s b : ℕ) (blocks : List Block) → length (data_stores s b blocks) ≡ length blocks
unfolding data_stores
length-data-stores s b [] = refl
length-data-stores s b (block ∷ blocks) = ap suc (length-data-stores s (suc b) blocks)

length-blank : (b : Bool) (s p : ℕ) → length (blank_if b s p) ≤ 1
unfolding blank_if
length-blank true s p = omega arith
length-blank false s p = omega arith

-- so many stores at most, on any image
abbrev pub Most : ℕ → Plan → Type 0
Most n plan = (im : Image) → length (plan im) ≤ n

most-then : {m n : ℕ} (first second : Plan) → Most m first → Most n second → Most (m + n) (first and_then second)
unfolding ◌and_then◌
most-then first second h k im = simp length-append (omega (arith, h im, k (apply (first im) im)))

-- data blocks, a blanking, the entry
abbrev most_to_append : ℕ
most_to_append = 4096 + 2

most-append : (B s : ℕ) (e : Entry) → IsShort e → Most most_to_append (append B s e)
unfolding append
most-append B s e short im = simp (length-append, length-data-stores) (grw (bound, length-blank, short) (omega arith))

most-append-all : (B s : ℕ) {es : List Entry} → Each IsShort es → Most (most_to_append * length es) (append_all B s es)
unfolding append_all nothing
most-append-all B s empty im = omega arith
most-append-all B s (each {x = e} {xs = es} short rest) im =
    omega (arith, most-then (append B s e) (append_all B s es) (most-append B s e short) (most-append-all B s rest) im)

most-reopen : (B s : ℕ) → Most 3 (reopen B s)
unfolding reopen
most-reopen B s im = simp length-append (grw (bound, length-blank, length-blank) (omega arith))

most-close : (B s : ℕ) → Most 1 (close_sector B s)
unfolding close_sector
most-close B s im = omega arith

-- a turn: its copies, done, reopening; and before them the closing
abbrev most_to_finish : ℕ
most_to_finish = most_to_append * 4096 + (most_to_append + 3)

abbrev most_to_turn : ℕ
most_to_turn = 1 + most_to_finish

module _ (B : ℕ) (low : B ≤ 4096) (S : ℕ) where
  most-finish : (u : ℕ) → Most most_to_finish (finish_turn B S u)
  unfolding finish_turn done_entry
  most-finish u im =
      let copies : AreFew B (survivors B u im) = few-survivors B low u im in
      let last : Plan = append B u done_entry and_then reopen B (next S u) in
      omega (
        arith,
        most-then (append_all B u (survivors B u im)) last
            (most-append-all B u copies.short)
            (most-then (append B u done_entry) (reopen B (next S u)) (most-append B u done_entry (omega arith)) (most-reopen B (next S u)))
            im,
      )

  most-turn : (w : ℕ) → Most most_to_turn (turn B S w)
  unfolding turn
  most-turn w = most-then (close_sector B w) (finish_turn B S (next S w)) (most-close B w) (most-finish (next S w))

  most-turns : (count w : ℕ) → Most (most_to_turn * count) (turns B S count w)
  unfolding turns nothing
  most-turns zero w im = omega arith
  most-turns (suc count) w im =
      omega (arith, most-then (turn B S w) (turns B S count (next S w)) (most-turn w) (most-turns count (next S w)) im)

  most-mount : (state : State) → Most (3 + most_to_finish) (mount B S state)
  unfolding mount nothing
  most-mount (at_rest w) im = omega arith
  most-mount (not_reopened w) im = omega (arith, most-reopen B (next S w) im)
  most-mount (mid_turn u) im = most-then (reopen B u) (finish_turn B S u) (most-reopen B u) (most-finish u) im

  pub mount-due : (state : State) (im : Image) → length (mount B S state im) < 2 ^ 32
  mount-due state im = omega (arith, most-mount state im)

  pub change-due : (count w : ℕ) (e : Entry) → count ≤ 64 → IsShort e → (im : Image) → length (change B S count w e im) < 2 ^ 32
  unfolding change
  change-due count w e few short im =
      omega (arith, most-then (turns B S count w) (append B (moved S count w) e) (most-turns count w) (most-append B (moved S count w) e short) im)
