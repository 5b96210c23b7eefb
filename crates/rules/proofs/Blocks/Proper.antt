-- Every entry that is read from a whole sector is proper.
use Rattle.std.specs.Prelude.{if◌then◌else◌}
use mathlib.Core.Path.{◌≡◌, ◌∙◌, subst}
use mathlib.Core.List.{List, []}
use Prim.Native.Nat.{ℕ, zero, suc, ◌+◌, ◌^◌, ◌<◌, ◌≤◌}
use native.Mathlib.Nat.{pow-suc}
use native.Mathlib.Omega.{arith}
use lib.ListN.{length, get_or, take, drop, length-drop}
use lib.Seq.{length-take-le}
use borrow.Author.Tests.{lt-ltb, le-ltb}
use Rattle.rules.specs.Notation.{number_of, Each, empty, each}
use Rattle.rules.specs.Ground.{Block, Sector}
use Rattle.rules.specs.Entry.{length_of, id_of, body_of}
use Rattle.rules.specs.Look.{Head, Scan, after, data_of, entry, head_of, look}
use Rattle.rules.specs.Reading.{Entry, is_long, entry_at, entries_of}
use Rattle.rules.proofs.Terms.{IsBlock, IsSector, HeadFits, fits-done, fits-deletion, fits-small, fits-long, IsProper}
use Rattle.rules.proofs.Format.Look.{Kind, is-done, is-deletion, is-small-value, is-long-value, form-kind, look-entry}
use Rattle.rules.proofs.Basics.Parts.{each_at, each_take, each-drop, each-either}
use Rattle.rules.proofs.Blocks.Reading.{Took, took-none, took_more}
use Rattle.rules.proofs.Blocks.Place.{Place, place-data, place-step, place-start, reading-of}

-- k bytes hold a number of so many bytes
pub number-below : (k : ℕ) {bytes : List ℕ} → Each (λ b. b < 256) bytes → number_of (take k bytes) < 256 ^ k
unfolding number_of
number-below zero bs = omega arith
number-below (suc k) empty = let ih : _ = number-below k empty in rw pow-suc (omega (arith, ih))
number-below (suc k) (each b bs) = let ih : _ = number-below k bs in rw pow-suc (omega (arith, ih))

fits-kind : {data_end id len : ℕ} {body : List ℕ} {head : Head} → id < 2 ^ 32 → len < 2 ^ 16 → length body ≡ 8 → Kind data_end id len body head
    → HeadFits head (if is_long head then drop 4 body else body)
unfolding is_long
fits-kind named short whole (is-done reserved zeroes padded) = fits-done whole padded
fits-kind named short whole (is-deletion other zeroes padded) = fits-deletion named other whole padded
fits-kind {len = len} named short whole (is-small-value other one few padded) =
    simp (le-ltb 8 len few) (fits-small named other one few whole padded)
fits-kind {len = len} {body = body} named short whole (is-long-value other many placed) =
    simp (lt-ltb 8 len many) (fits-long named other many short (length-drop 4 body ∙ omega arith))

module _ (B cycle : ℕ) {sector : Sector} (is : IsSector B sector) where
  proper-at : (p : ℕ) (scan : Scan) {head : Head} → p < B → scan.data_end + data_of head ≤ B → look B cycle scan (get_or sector p []) ≡ entry head
      → IsProper (entry_at sector p scan head)
  unfolding entry_at head_of id_of length_of body_of
  proper-at p scan {head} inside used e =
      let block : Block = get_or sector p [] in
      let whole : IsBlock block = each_at is.blocks p [] (omega (arith, is.sized)) in
      let sized : length (drop 8 block) ≡ 8 = length-drop 8 block ∙ omega (arith, whole.sized) in
      record {
        fits =
            fits-kind (number-below 4 (each-drop 4 whole.bytes)) (number-below 2 (each-drop 2 whole.bytes)) sized
            (form-kind scan.data_end _ _ _ (look-entry B cycle scan block e).right_form);
        bytes = each-either (is_long head) (each-drop 4 (each-drop 8 whole.bytes)) (each-drop 8 whole.bytes);
        counted = length-take-le (data_of head) (drop scan.data_end sector) (omega (arith, length-drop scan.data_end sector, is.sized));
        blocks = each_take (data_of head) (each-drop scan.data_end is.blocks);
      }

  pub proper-took : {p q : ℕ} {scan : Scan} {es : List Entry} → p ≤ B → Place B p scan → Took B cycle sector p scan es q → Each IsProper es
  unfolding after
  proper-took inside place took-none = empty
  proper-took inside place (took_more {p = p} {scan = scan} {e = e} here at rest) =
      let next : Place B p (after scan e.head) = place-step e.head (look-entry B cycle scan (get_or sector p []) here).within place in
      each
      (subst IsProper at (proper-at p scan (omega arith) (omega (arith, place-data next)) here))
      (proper-took (omega arith) next rest)

pub proper-entries : (B cycle : ℕ) (sector : Sector) → 8 ≤ B → IsSector B sector → Each IsProper (entries_of B cycle sector)
proper-entries B cycle sector enough is =
    proper-took B cycle is (omega arith) (place-start B enough) (reading-of B cycle sector enough).took
