-- What marks hold: one flag for each entry that a sector can have.
use Rattle.std.specs.Prelude.{Bool, List, map, ℕ}
use Rattle.rules.specs.Notation.{concat}
use Rattle.mask.specs.declared.marks.Marks.{Marks}
use Rattle.mask.specs.Flags.{bits_of}

-- no sector has more entries: it has at most so many blocks
abbrev pub max_marks : ℕ
max_marks = 4096

-- bits in a word
abbrev pub word_bits : ℕ
word_bits = 64

-- a flag for each entry, that of entry 0 first: the bits of word after word
unfoldable pub marks_of : Marks → List Bool
marks_of m = concat (map (bits_of word_bits) m.0)
