-- What a command is due, as the rules have it of the call that it asks for.
use Rattle.std.specs.Prelude.{List, ℕ}
use Rattle.rules.specs.Calls as rule
use Rattle.console.specs.declared.Command.{Command}
use Rattle.console.specs.declared.Command.TheVariants as command

-- bytes of the largest image that the driver takes
abbrev pub largest : ℕ
largest = 65536

unfoldable pub due_of : (size count : ℕ) → Command → (image : List ℕ) → rule.Due
due_of size count command.Format image = rule.format_due size count image
due_of size count command.Mount image = rule.mount_due size count image
due_of size count (command.Write id value) image = rule.write_due size count image id value.now
due_of size count (command.Delete id) image = rule.delete_due size count image id
