-- The bytes that a format stores.
use Rattle.rules.specs.Ground.{Block, blank_block}
use Rattle.rules.specs.Entry.{lead_block, close_block, done_block}
use Rattle.rules.specs.Stores as rule

-- of a format, the bytes of a block of this kind: "all cycles 1"
unfoldable pub kind_bytes : rule.Kind → Block
kind_bytes rule.lead = lead_block 1
kind_bytes rule.close = close_block 1
kind_bytes rule.done = done_block 1
kind_bytes rule.value = blank_block
kind_bytes rule.deletion = blank_block
kind_bytes rule.data' = blank_block
kind_bytes rule.blank = blank_block
