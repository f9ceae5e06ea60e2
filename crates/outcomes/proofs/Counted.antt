-- An answer counts the rows that the call wrote.
-- Assumes nothing.
use mathlib.Core.Path.{◌≡◌, refl, ap, ◌∙◌}
use lib.ListN.{length}
use Rattle.head.specs.declared.Answer.{Answer}
use Rattle.head.specs.declared.Answer.TheVariants.{No, New, Was, Is, Now, Absent, Entry, Done, Count, Flag}
use Rattle.head.specs.declared.Command.{Command}
use Rattle.head.specs.Answers.{row_count}
use Rattle.head.specs.Fields.{Fields}
use Rattle.head.specs.Forms.{form_of}
use Rattle.model.specs.Perform.{Cache, perform}
use Rattle.model.proofs.Cases.{split}
use Rattle.model.proofs.Handing.{rows_counted}
use Rattle.plan.specs.States.{State, Means}
use Rattle.door.specs.Served.{Calls, Tells, is_teller, rows_taken, shortest}
use Rattle.layout.specs.Numbered.{numbers_of}

-- the count among an answer's numbers is the rows that it counts
pub numbered_rows : (a : Answer) → (numbers_of a).rows ≡ row_count a
numbered_rows (No r) = refl
numbered_rows (New n) = refl
numbered_rows (Was v n) = refl
numbered_rows (Is v) = refl
numbered_rows (Now v b n) = refl
numbered_rows Absent = refl
numbered_rows (Entry e) = refl
numbered_rows (Done n) = refl
numbered_rows (Count k) = refl
numbered_rows (Flag b) = refl

-- a call's answer counts the rows that it wrote
pub call_counts : {m : Command} {s t : State} {rows out : Fields} {a : Answer} {c : Cache} → Calls m s t rows out a → Means s c
    → row_count a ≡ length (perform m (shortest rows) c).rows
call_counts {m} {rows = rows} {c = c} x d = ap row_count (x.serves.sound c d).answer ∙ rows_counted m (shortest rows) c d.lawful.capacity.0

-- and so does a listing's
pub tell_counts : {m : Command} {s : State} {rows out : Fields} {a : Answer} {c : Cache} → Tells m s rows out a → Means s c
    → row_count a ≡ length (rows_taken (is_teller (form_of m)) (perform m (shortest rows) c).rows)
tell_counts {m} {rows = rows} {c = c} x d =
    ap row_count (x.answer c d)
    ∙ split (is_teller (form_of m)) (λ k. rw k (rows_counted m (shortest rows) c d.lawful.capacity.0)) (λ k. rw k refl)
