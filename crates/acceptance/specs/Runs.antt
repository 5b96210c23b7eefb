-- A run of a call: what went in, what it left and what it answered, related by the contract that `store` exports for that
-- call (`Reads.Post`, the plain reading of its `ensures`), and by nothing else.
use Rattle.std.specs.Prelude.{List, ℕ, Result}
use contract.Lifetimes.{Lfts}
use Rattle.std.specs.Borrow.{Bor, MutBor}
use Rattle.answer.specs.declared.Outcome.{Outcome}
use Rattle.answer.specs.declared.Refusal.{Refusal}
use Rattle.store.proofs.format.Reads as format
use Rattle.store.proofs.mount.Reads as mount
use Rattle.store.proofs.read.Reads as read
use Rattle.store.proofs.write.Reads as write
use Rattle.store.proofs.delete.Reads as delete

-- what the calls answer: one that stores, and a read
abbrev pub Made : Type 0
Made = Result Outcome Refusal

abbrev pub Reply : Type 0
Reply = Result ℕ Refusal

-- where a lent slice lies; no demand depends on it
pub record Address : Type 0 where
  pub ptr : ℕ × ℕ
  pub name : ℕ

-- the slice there, with these bytes: lent by `&mut`, and by `&`
abbrev pub lent : Address → List ℕ → MutBor (List ℕ)
lent p bytes = record { ref_ptr = p.ptr; ghost_name = p.name; now = bytes }

abbrev pub shown : Address → List ℕ → Bor (List ℕ)
shown p bytes = record { ref_ptr = p.ptr; now = bytes }

pub record Formats (size count : ℕ) (before : List ℕ) (allowance : ℕ) (after : List ℕ) (r : Made) : Type 0 where
  pub lifetimes : Lfts 1
  pub image : Address
  pub meets : format.Post lifetimes (lent image before, (size, (count, (allowance, tt)))) r (lent image after, (size, (count, (allowance, tt))))

pub record Mounts (size count : ℕ) (before : List ℕ) (allowance : ℕ) (after : List ℕ) (r : Made) : Type 0 where
  pub lifetimes : Lfts 1
  pub image : Address
  pub meets : mount.Post lifetimes (lent image before, (size, (count, (allowance, tt)))) r (lent image after, (size, (count, (allowance, tt))))

-- The value of a write is lent by `&`, as the image of a read is: what stands there after it is the contract's to say.
pub record Writes (size count id : ℕ) (value before : List ℕ) (allowance : ℕ) (after : List ℕ) (r : Made) : Type 0 where
  pub lifetimes : Lfts 2
  pub image : Address
  pub source : Address
  pub value_after : List ℕ
  pub meets : write.Post lifetimes (lent image before, (size, (count, (id, (shown source value, (allowance, tt)))))) r (lent image after, (size, (count, (id, (shown source value_after, (allowance, tt))))))

pub record Deletes (size count id : ℕ) (before : List ℕ) (allowance : ℕ) (after : List ℕ) (r : Made) : Type 0 where
  pub lifetimes : Lfts 1
  pub image : Address
  pub meets : delete.Post lifetimes (lent image before, (size, (count, (id, (allowance, tt))))) r (lent image after, (size, (count, (id, (allowance, tt)))))

-- The image of a read is lent by `&`; what stands there after it is the contract's to say.
pub record Reads (size count : ℕ) (image : List ℕ) (id : ℕ) (buffer after : List ℕ) (reply : Reply) : Type 0 where
  pub lifetimes : Lfts 2
  pub source : Address
  pub target : Address
  pub image_after : List ℕ
  pub meets : read.Post lifetimes (shown source image, (size, (count, (id, (lent target buffer, tt))))) reply (shown source image_after, (size, (count, (id, (lent target after, tt)))))

-- What a caller must show before a call (`Reads.Asked`, the reading of its `requires`): nothing, so any request can be made.
pub record AsksNothing : Type 0 where
  pub formats : (lifetimes : Lfts 1) (image : MutBor (List ℕ)) (size count allowance : ℕ) → format.Asked lifetimes (image, (size, (count, (allowance, tt))))
  pub mounts : (lifetimes : Lfts 1) (image : MutBor (List ℕ)) (size count allowance : ℕ) → mount.Asked lifetimes (image, (size, (count, (allowance, tt))))
  pub reads : (lifetimes : Lfts 2) (image : Bor (List ℕ)) (size count id : ℕ) (buffer : MutBor (List ℕ)) → read.Asked lifetimes (image, (size, (count, (id, (buffer, tt)))))
  pub writes : (lifetimes : Lfts 2) (image : MutBor (List ℕ)) (size count id : ℕ) (value : Bor (List ℕ)) (allowance : ℕ) → write.Asked lifetimes (image, (size, (count, (id, (value, (allowance, tt))))))
  pub deletes : (lifetimes : Lfts 1) (image : MutBor (List ℕ)) (size count id allowance : ℕ) → delete.Asked lifetimes (image, (size, (count, (id, (allowance, tt)))))
