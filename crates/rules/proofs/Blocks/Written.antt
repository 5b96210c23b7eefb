-- What an entry's block holds is read back as the same entry, and every block that is made is a whole one.
use Rattle.std.specs.Prelude.{if◌then◌else◌}
use mathlib.Core.Path.{◌≡◌, refl, ap, ◌∙◌}
use mathlib.Core.Bool.{Bool, true, false}
use mathlib.Core.List.{List, [], ◌++◌}
use Prim.Native.Nat.{ℕ, zero, suc, ◌*◌, ◌-◌, ◌^◌, ◌/◌, ◌%◌, ◌<◌, ◌≤◌}
use native.Mathlib.Omega.{arith}
use lib.ListN.{length, get_or, take, drop, length-append}
use lib.Seq.{take_at, drop_at}
use borrow.Author.Tests.{lt-ltb, le-ltb}
use Rattle.rules.specs.Notation.{bytes_of, number_of, erased, Each, empty, each}
use Rattle.rules.specs.Ground.{Sector, block_size, reserved_id, blank_block}
use Rattle.rules.specs.Entry.{cycle_of, body_of, fields, sealed, encode, numbers, lead_length, lead_mark, lead_block, close_block}
use Rattle.rules.specs.Look.{Head, Scan, data_of, entry, is_within, judge, look}
use Rattle.rules.specs.Reading.{Entry, is_long, entry_at, view_of}
use Rattle.rules.specs.Meaning.{length_in}
use Rattle.rules.specs.Stores.{id_in, entry_block}
use Rattle.rules.proofs.Terms.{IsBlock, IsSector, HeadFits, fits-done, fits-deletion, fits-small, fits-long, IsProper}
use Rattle.rules.proofs.Basics.Notation.{length-bytes_of, number-bytes, length-erased}
use Rattle.rules.proofs.Format.Checksum.{crc8-below}
use Rattle.rules.proofs.Format.Entry.{Fit, body-encode, length-encode, length-numbers}
use Rattle.rules.proofs.Format.Look.{Kind, is-done, is-deletion, is-small-value, is-long-value}
use Rattle.rules.proofs.Format.Built.{look-kind}
use Rattle.rules.proofs.Basics.Parts.{each_at, each_append, each-replicate, each-either}

-- Bytes, and the blocks that are made of them.
bytes-at : {bytes : List ℕ} → Each (λ b. b < 256) bytes → (i : ℕ) → get_or bytes i 0 < 256
bytes-at empty i = omega arith
bytes-at (each b bs) zero = b
bytes-at (each b bs) (suc i) = bytes-at bs i

-- the cycle that a whole sector shows is a byte
pub cycle-byte : {B : ℕ} {sector : Sector} → 8 ≤ B → IsSector B sector → (view_of B sector).cycle < 256
unfolding view_of cycle_of
cycle-byte {B} enough is = bytes-at (each_at is.blocks (B - 1) [] (omega (arith, is.sized))).bytes 1

pub each-bytes_of : (k n : ℕ) → Each (λ b. b < 256) (bytes_of k n)
unfolding bytes_of
each-bytes_of zero n = empty
each-bytes_of (suc k) n = let low : n % 256 < 256 = omega arith in each low (each-bytes_of k (n / 256))

pub each-erased : (n : ℕ) → Each (λ b. b < 256) (erased n)
unfolding erased
each-erased n = each-replicate n 0xFF (omega arith)

pub encode-block : (cycle len id : ℕ) (body : List ℕ) → cycle < 256 → length body ≡ 8 → Each (λ b. b < 256) body → IsBlock (encode cycle len id body)
unfolding encode sealed fields
encode-block cycle len id body byte whole bytes =
    let after : Each (λ b. b < 256) (fields cycle len id body) = each byte (each_append (each-bytes_of 2 len) (each_append (each-bytes_of 4 id) bytes)) in
    record { sized = length-encode cycle len id body whole; bytes = each (crc8-below (fields cycle len id body) (bytes-at after)) after }

pub lead_block_lem : (cycle : ℕ) → cycle < 256 → IsBlock (lead_block cycle)
unfolding lead_block numbers
lead_block_lem cycle byte =
    encode-block cycle lead_length reserved_id (numbers 0 lead_mark) byte (length-numbers 0 lead_mark) (each_append (each-bytes_of 4 0) (each-bytes_of 4 lead_mark))

pub close_block_lem : (cycle : ℕ) → cycle < 256 → IsBlock (close_block cycle)
unfolding close_block
close_block_lem cycle byte = encode-block cycle 0 reserved_id (erased 8) byte (length-erased 8) (each-erased 8)

pub blank-block : IsBlock blank_block
unfolding blank_block
blank-block = record { sized = length-erased block_size; bytes = each-erased block_size }

-- bytes 8-15 of an entry at its place
abbrev body_at : (data_end : ℕ) → Head → List ℕ → List ℕ
body_at data_end head rest = if is_long head then bytes_of 4 (data_end * block_size) ++ rest else rest

module _ (data_end : ℕ) where
  fit-head : {head : Head} {rest : List ℕ} → HeadFits head rest → Fit (length_in head) (id_in head) (body_at data_end head rest)
  unfolding is_long length_in id_in
  fit-head (fits-done whole padded) = record { short = omega arith; named = omega arith; whole = whole }
  fit-head (fits-deletion named user whole padded) = record { short = omega arith; named = named; whole = whole }
  fit-head (fits-small {len = len} named user one few whole padded) = record { short = omega arith; named = named; whole = simp (le-ltb 8 len few) whole }
  fit-head (fits-long {len = len} {rest = rest} named user many short whole) =
      record { short = short; named = named; whole = simp (lt-ltb 8 len many, length-append, length-bytes_of) (omega arith) }

  kind-head : {head : Head} {rest : List ℕ} → data_end * block_size < 2 ^ 32 → HeadFits head rest → Kind data_end (id_in head) (length_in head) (body_at data_end head rest) head
  unfolding is_long length_in id_in
  kind-head near (fits-done whole padded) = is-done refl refl padded
  kind-head near (fits-deletion named user whole padded) = is-deletion user refl padded
  kind-head near (fits-small {len = len} named user one few whole padded) = simp (le-ltb 8 len few) (is-small-value user one few padded)
  kind-head near (fits-long {len = len} {rest = rest} named user many short whole) =
      simp (lt-ltb 8 len many)
      (is-long-value user many (ap number_of (take_at (bytes_of 4 (data_end * block_size)) rest 4 (length-bytes_of 4 (data_end * block_size))) ∙ number-bytes 4 (data_end * block_size) near))

-- only a done has the reserved ID, and it has no length
no_lead : {head : Head} {rest : List ℕ} → HeadFits head rest → id_in head ≡ reserved_id → length_in head ≡ lead_length → ⊥
unfolding id_in length_in
no_lead (fits-done whole padded) reserved long = omega arith
no_lead (fits-deletion named user whole padded) reserved long = user reserved
no_lead (fits-small named user one few whole padded) reserved long = user reserved
no_lead (fits-long named user many short whole) reserved long = user reserved

each-body : (data_end : ℕ) (head : Head) {rest : List ℕ} → Each (λ b. b < 256) rest → Each (λ b. b < 256) (body_at data_end head rest)
each-body data_end head rest = each-either (is_long head) (each_append (each-bytes_of 4 (data_end * block_size)) rest) rest

module _ (cycle data_end : ℕ) {e : Entry} (proper : IsProper e) where
  pub entry-block : cycle < 256 → IsBlock (entry_block cycle data_end e)
  unfolding entry_block
  entry-block byte = encode-block cycle _ _ _ byte (fit-head data_end proper.fits).whole (each-body data_end e.head proper.bytes)

-- The block of an entry that is within its limit reads as that entry.
pub look-written : (B cycle : ℕ) (scan : Scan) {e : Entry} → IsProper e → scan.data_end * block_size < 2 ^ 32 → is_within B scan e.head ≡ true
    → look B cycle scan (entry_block cycle scan.data_end e) ≡ entry e.head
unfolding entry_block judge
look-written B cycle scan {e} proper near within =
    look-kind cycle _ _ _ (fit-head scan.data_end proper.fits) (no_lead proper.fits) B scan (kind-head scan.data_end near proper.fits)
    ∙ simp within

rest_back : (b : Bool) (n : ℕ) (rest : List ℕ)
    → (if b then drop 4 (if b then bytes_of 4 n ++ rest else rest) else (if b then bytes_of 4 n ++ rest else rest)) ≡ rest
rest_back true n rest = drop_at (bytes_of 4 n) rest 4 (length-bytes_of 4 n)
rest_back false n rest = refl

pub entry-written : (cycle : ℕ) (sector : Sector) (p : ℕ) (scan : Scan) (e : Entry) → get_or sector p [] ≡ entry_block cycle scan.data_end e
    → take (data_of e.head) (drop scan.data_end sector) ≡ e.blocks → entry_at sector p scan e.head ≡ e
unfolding entry_at entry_block
entry-written cycle sector p scan e here contents =
    let body : body_of (get_or sector p []) ≡ body_at scan.data_end e.head e.inline = ap body_of here ∙ body-encode cycle _ _ _ in
    simp (body, contents, rest_back (is_long e.head) (scan.data_end * block_size) e.inline)
