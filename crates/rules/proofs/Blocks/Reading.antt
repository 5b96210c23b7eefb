-- Laws of the reading: what it takes up, and that it depends on nothing else.
use mathlib.Core.Path.{◌≡◌, refl, sym, ap, ◌∙◌}
use mathlib.Core.Bool.{false, false≢true}
use mathlib.Core.List.{List, [], ◌∷◌, ◌++◌}
use Prim.Native.Nat.{ℕ, suc, ◌+◌, ◌<◌, ◌≤◌}
use native.Mathlib.Omega.{arith}
use lib.ListN.{length, get_or, take, drop}
use Rattle.rules.specs.Ground.{Sector}
use Rattle.rules.specs.Look.{Head, Scan, after, data_of, Verdict, entry, blank, other_cycle, wrong_check, wrong_form, over_limit, look, is_entry}
use Rattle.rules.specs.Reading.{Entry, entry_at, entries_below, after_all}
use Rattle.rules.proofs.Basics.Parts.{part_same}

module _ (B cycle : ℕ) (sector : Sector) where
  -- the two equations of a reading
  pub entries-more : (p : ℕ) (scan : Scan) {head : Head} → look B cycle scan (get_or sector p []) ≡ entry head
      → entries_below B cycle sector (suc p) scan ≡ entry_at sector p scan head ∷ entries_below B cycle sector p (after scan head)
  unfolding entries_below
  entries-more p scan e = rw (e, entries_below)

  pub entries-end : (p : ℕ) (scan : Scan) → is_entry (look B cycle scan (get_or sector p [])) ≡ false → entries_below B cycle sector (suc p) scan ≡ []
  unfolding entries_below is_entry
  entries-end p scan e = go (look B cycle scan (get_or sector p [])) refl e
    where
      go : (v : Verdict) → look B cycle scan (get_or sector p []) ≡ v → is_entry v ≡ false → entries_below B cycle sector (suc p) scan ≡ []
      go (entry head) same none = absurd (false≢true (sym none))
      go blank same none = rw (same, entries_below)
      go other_cycle same none = rw (same, entries_below)
      go wrong_check same none = rw (same, entries_below)
      go wrong_form same none = rw (same, entries_below)
      go over_limit same none = rw (same, entries_below)

-- The entries that were taken from below block p, down to block q and not below it.
pub data Took (B cycle : ℕ) (sector : Sector) : ℕ → Scan → List Entry → ℕ → Type 0 where
  took-none : {p : ℕ} {scan : Scan} → Took B cycle sector p scan [] p
  took_more : {p q : ℕ} {scan : Scan} {e : Entry} {es : List Entry}
      → look B cycle scan (get_or sector p []) ≡ entry e.head → entry_at sector p scan e.head ≡ e
      → Took B cycle sector p (after scan e.head) es q → Took B cycle sector (suc p) scan (e ∷ es) q

-- data only grows
pub data-grows : (scan : Scan) (es : List Entry) → scan.data_end ≤ (after_all scan es).data_end
unfolding after_all after
data-grows scan [] = omega arith
data-grows scan (e ∷ es) = let rest : _ = data-grows (after scan e.head) es in omega (arith, rest)

-- one entry more, last
pub after-snoc : (scan : Scan) (es : List Entry) (e : Entry) → after_all scan (es ++ (e ∷ [])) ≡ after (after_all scan es) e.head
unfolding after_all
after-snoc scan [] e = refl
after-snoc scan (x ∷ es) e = after-snoc (after scan x.head) es e

-- an entry depends on its own block and on its data blocks alone
pub entry-same : (sector other : Sector) (p m : ℕ) (scan : Scan) (head : Head) → scan.data_end + data_of head ≤ m
    → get_or other p [] ≡ get_or sector p [] → take m other ≡ take m sector → entry_at other p scan head ≡ entry_at sector p scan head
unfolding entry_at
entry-same sector other p m scan head h block contents =
    let blocks : take (data_of head) (drop scan.data_end other) ≡ take (data_of head) (drop scan.data_end sector) = part_same scan.data_end (data_of head) m sector other h contents in
    simp (block, blocks)

module _ {B cycle : ℕ} where
  pub took-down : {sector : Sector} {p q : ℕ} {scan : Scan} {es : List Entry} → Took B cycle sector p scan es q → q + length es ≡ p
  took-down took-none = omega arith
  took-down (took_more look-e at rest) = let ih : _ = took-down rest in omega (arith, ih)

  -- A sector that agrees on the blocks that were read, and on the data blocks in use, gives the same entries.
  pub took-same : {sector other : Sector} {p q : ℕ} {scan : Scan} {es : List Entry}
      → ((b : ℕ) → q ≤ b → b < p → get_or other b [] ≡ get_or sector b []) → take (after_all scan es).data_end other ≡ take (after_all scan es).data_end sector
      → Took B cycle sector p scan es q → Took B cycle other p scan es q
  unfolding after_all after
  took-same blocks contents took-none = took-none
  took-same {sector} {other} blocks contents (took_more {p = p} {q = q} {scan = scan} {e = e} {es = es} look-e at rest) =
      let below : q ≤ p = let down : _ = took-down rest in omega (arith, down) in
      let used : scan.data_end + data_of e.head ≤ (after_all (after scan e.head) es).data_end = data-grows (after scan e.head) es in
      let block : get_or other p [] ≡ get_or sector p [] = blocks p below (omega arith) in
      took_more
      (ap (look B cycle scan) block ∙ look-e)
      (entry-same sector other p (after_all (after scan e.head) es).data_end scan e.head used block contents ∙ at)
      (took-same (λ b low high. blocks b low (omega arith)) contents rest)

  -- and one entry more is taken where it stands
  pub took-snoc : {sector : Sector} {p q : ℕ} {scan : Scan} {es : List Entry} {e : Entry} → Took B cycle sector p scan es (suc q)
      → look B cycle (after_all scan es) (get_or sector q []) ≡ entry e.head → entry_at sector q (after_all scan es) e.head ≡ e
      → Took B cycle sector p scan (es ++ (e ∷ [])) q
  unfolding after_all
  took-snoc took-none look-e at = took_more look-e at took-none
  took-snoc (took_more look-x at_x rest) look-e at = took_more look-x at_x (took-snoc rest look-e at)

  -- Entries down to a block that is none are the reading.
  pub took-entries : {sector : Sector} {p q : ℕ} {scan : Scan} {es : List Entry} → Took B cycle sector p scan es (suc q)
      → is_entry (look B cycle (after_all scan es) (get_or sector q [])) ≡ false → entries_below B cycle sector p scan ≡ es
  unfolding after_all
  took-entries {sector} {q = q} (took-none {scan = scan}) ended = entries-end B cycle sector q scan ended
  took-entries {sector} (took_more {p = p} {scan = scan} {e = e} {es = es} look-e at rest) ended =
      let tail : entries_below B cycle sector p (after scan e.head) ≡ es = took-entries rest ended in
      entries-more B cycle sector p scan look-e ∙ (λ i. at i ∷ tail i)
