-- The rows of a call in eight records, blank at first.
-- Assumes nothing.
use Rattle.std.specs.Prelude.{List, ◌≡◌, replicate}
use Rattle.head.specs.declared.Row.{Row}
use Rattle.head.specs.declared.Command.{Command}
use Rattle.head.specs.Fields.{Fields}
use Rattle.model.specs.Perform.{Cache, perform}
use Rattle.store.specs.State.{blank}
use Rattle.plan.specs.States.{State, Means}
use Rattle.records.specs.Into.{lent, told_rows, laid}

-- eight blank records
abbrev pub blanks : List Row
blanks = replicate 8 blank

-- they hold the rows of a call, as many as are lent
abbrev pub Lists : Command → State → Fields → List Row → Type 0
Lists m s rows list = (c : Cache) → Means s c → list ≡ laid (perform m (lent 8 rows) c).rows blanks

-- they hold the rows of a listing, as many as are lent
abbrev pub ListsTold : Command → State → Fields → List Row → Type 0
ListsTold m s rows list = (c : Cache) → Means s c → list ≡ laid (told_rows m (lent 8 rows) c) blanks
