-- The buffer keeps its room from line to line, and a text that stands in it fits.
-- Assumes nothing.
use Prim.Native.Nat.{ℕ, suc, ◌*◌, ◌≤◌}
use mathlib.Core.List.{List}
use mathlib.Core.Path.{◌≡◌}
use native.Mathlib.Omega.{arith}
use lib.ListN.{length}
use Rattle.head.specs.Fields.{Fields}
use Rattle.door.specs.Served.{shortest}
use Rattle.script_digits.specs.Laid.{Laid}
use Rattle.script_digits.proofs.Laying.{laid_size}
use Rattle.script_write.specs.Lines.{most_line}

pub room_stays : (f g : Fields) (b c : List ℕ) → length g.codes ≡ length f.codes → length g.stamps ≡ length f.stamps → length g.values ≡ length f.values
    → length g.weights ≡ length f.weights
    → length c ≡ length b
    → suc (shortest f) * most_line ≤ length b
    → suc (shortest g) * most_line ≤ length c
room_stays f g b c p q r s t h = rw (p, q, r, s, t) h

pub text_fits : {xs : List ℕ} {r : ℕ} {b c : List ℕ} → Laid 0 xs r b c → r ≤ length c
text_fits l = omega (arith, l.next, l.room, laid_size l)
