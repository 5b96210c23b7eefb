-- The tables of a sector's entries: down along a bucket, and one entry more.
-- Assumes nothing.
use mathlib.Core.Path.{◌≡◌, refl, sym, ap, ◌∙◌}
use mathlib.Core.Bool.{false}
use mathlib.Core.List.{List}
use mathlib.Core.Logic.{by_cases}
use Prim.Native.Nat.{ℕ, zero, suc, ◌+◌, ◌<◌, ◌≤◌}
use native.Mathlib.Nat.{mod-lt}
use native.Mathlib.Numerals.{add-one}
use native.Mathlib.Omega.{arith}
use native.Mathlib.Decide.{ℕ_discrete}
use lib.ListN.{length, get_or, set, length-set}
use lib.Seq.{get_or-set_same, get_or-set_other}
use borrow.Author.Count.{below_more}
use borrow.Author.Tests.{eq-eqb, ne_eqb}
use Rattle.rules.specs.Ground.{reserved_id}
use Rattle.rules.specs.Reading.{Entry}
use Rattle.rules.specs.Meaning.{is_named}
use Rattle.rules.specs.Stores.{id_in}
use Rattle.rules.proofs.Basics.Places.{here-or}
use Rattle.rules.proofs.Ring.Newest.{named-id}
use Rattle.image.specs.Answer.{no_entry}
use Rattle.search.specs.Search.{last_named_below}
use Rattle.search.proofs.Seeking.{last-below}
use Rattle.index.specs.Buckets.{bucket_of, last_in, link_to}
use Rattle.index.specs.Tables.{Indexes}

-- every ID has a bucket
pub bucket-low : (size id : ℕ) → 0 < size → bucket_of size id < size
unfolding bucket_of
bucket-low size id some = mod-lt _ some

-- the bucket of entry n
abbrev pub bucket_at : (size : ℕ) → List Entry → ℕ → ℕ
bucket_at size es n = bucket_of size (id_in (get_or es n no_entry).head)

-- one entry more falls into the bucket, or into another
module _ (size b : ℕ) (es : List Entry) where
  last-in-here : (n : ℕ) → bucket_at size es n ≡ b → link_to (last_in size b (suc n) es) ≡ suc n
  unfolding last_in link_to
  last-in-here n same = rw (eq-eqb _ _ same)

  last-in-below : (n : ℕ) → (bucket_at size es n ≡ b → ⊥) → last_in size b (suc n) es ≡ last_in size b n es
  unfolding last_in
  last-in-below n other = rw (ne_eqb _ _ other)

-- ---- down along a bucket

-- Of the first m entries only the first l can name the ID, and the last of these is of its bucket.
pub record Narrowed (size id : ℕ) (es : List Entry) (m l : ℕ) : Type 0 where
  pub few : l ≤ m
  pub rest : last_named_below id m es ≡ last_named_below id l es
  pub bucket : (n : ℕ) → l ≡ suc n → bucket_at size es n ≡ bucket_of size id

module _ (size id : ℕ) (user : id ≡ reserved_id → ⊥) (es : List Entry) where
  -- an entry of another bucket names another ID
  other-bucket : (n : ℕ) → (bucket_at size es n ≡ bucket_of size id → ⊥) → is_named id (get_or es n no_entry).head ≡ false
  other-bucket n other = named-id id user _ ∙ ne_eqb _ _ (λ e. other (ap (bucket_of size) e))

  -- so no entry after the last one of the bucket names the ID
  pub narrowed : (m : ℕ) → Narrowed size id es m (link_to (last_in size (bucket_of size id) m es))
  unfolding last_in link_to
  narrowed zero = record { few = omega arith; rest = refl; bucket = λ n e. absurd (omega arith) }
  narrowed (suc m) =
      by_cases (ℕ_discrete (bucket_at size es m) (bucket_of size id))
      (λ same.
      rw (last-in-here size (bucket_of size id) es m same)
      (record { few = omega arith; rest = refl; bucket = λ n e. let here : m ≡ n = omega arith in rw here at same }))
      (λ other.
      let k = narrowed m in
      rw (last-in-below size (bucket_of size id) es m other)
      (record {
        few = omega (arith, k.few);
        rest = last-below id es m refl (other-bucket m other) ∙ k.rest;
        bucket = k.bucket;
      }))

  -- from entry n of the bucket to the next older one there
  pub narrowed-older : {count link n next : ℕ} → Narrowed size id es count link → link ≡ suc n → next ≡ link_to (last_in size (bucket_at size es n) n es) → Narrowed size id es n next
  narrowed-older {count} {link} {n} {next} k above older = rw (older, k.bucket n above) (narrowed n)

  -- if entry n names another ID
  pub narrowed-next : {count link n next : ℕ} → Narrowed size id es count link → link ≡ suc n → is_named id (get_or es n no_entry).head ≡ false
      → Narrowed size id es n next → Narrowed size id es count next
  narrowed-next {count} {link} {n} {next} k above other before =
      record {
        few = omega (arith, k.few, before.few);
        rest = k.rest ∙ last-below id es n above other ∙ before.rest;
        bucket = before.bucket;
      }

-- ---- one entry more: it comes first in its bucket, before the one that did

module _ {size : ℕ} {es : List Entry} {n : ℕ} {heads links : List ℕ} (k : Indexes size es n heads links) where
  abbrev b : ℕ
  b = bucket_at size es n

  more-newest : (a : ℕ) → a < size → get_or (set heads b (n + 1)) a 0 ≡ link_to (last_in size a (n + 1) es)
  more-newest a h =
      here-or (λ (t : ℕ). get_or (set heads b (n + 1)) t 0 ≡ link_to (last_in size t (n + 1) es)) b a
      (get_or-set_same heads b (n + 1) 0 (omega (arith, k.buckets, bucket-low size (id_in (get_or es n no_entry).head) k.some)) ∙ rw (add-one, last-in-here size b es n refl))
      (λ other. get_or-set_other heads b a (n + 1) 0 other ∙ k.newest a h ∙ rw (add-one, last-in-below size a es n (λ e. other (sym e))))

  more-older : n < size → (t : ℕ) → t < n + 1
      → get_or (set links n (get_or heads b 0)) t 0 ≡ link_to (last_in size (bucket_at size es t) t es)
  more-older linked =
      below_more (λ (t : ℕ). get_or (set links n (get_or heads b 0)) t 0 ≡ link_to (last_in size (bucket_at size es t) t es)) n
      (λ t h. get_or-set_other links n t (get_or heads b 0) 0 (λ e. omega arith) ∙ k.older t h)
      (get_or-set_same links n (get_or heads b 0) 0 (omega (arith, k.room)) ∙ k.newest b (bucket-low size _ k.some))

  pub index-more : n < length es → Indexes size es (n + 1) (set heads b (n + 1)) (set links n (get_or heads b 0))
  index-more here =
      let linked : n < size = omega (arith, k.fits) in
      record {
        some = k.some;
        most = k.most;
        fits = k.fits;
        few = omega arith;
        buckets = length-set heads b (n + 1) ∙ k.buckets;
        room = length-set links n (get_or heads b 0) ∙ k.room;
        newest = more-newest;
        older = more-older linked;
      }
