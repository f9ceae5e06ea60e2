-- A decision carried out is what the definitions say of the call; and what is refused before one is made.
-- Assumes nothing.
use Prim.Native.Nat.{ℕ, min}
use native.Mathlib.Omega.{arith}
use Rattle.head.specs.declared.Answer.{Answer}
use mathlib.Core.Bool.{true, false}
use mathlib.Core.List.{List}
use mathlib.Core.Path.{◌≡◌, refl, sym, ap, ◌∙◌, subst}
use Rattle.head.specs.declared.Answer.TheVariants.{No}
use Rattle.head.specs.declared.Refusal.TheVariants.{Unsound, NotUnderstood}
use Rattle.head.specs.declared.Command.{Command}
use Rattle.head.specs.declared.Row.{Row}
use Rattle.head.specs.Fields.{Fields}
use Rattle.head.specs.Forms.{form_of}
use Rattle.model.specs.Moves.{Move}
use Rattle.model.specs.Calls.{Verdict}
use Rattle.model.specs.Perform.{Cache, verdict, handed, perform}
use Rattle.store.specs.Caches.{after}
use Rattle.rows.specs.Written.{Written}
use Rattle.rows.proofs.Nothing.{none_written}
use Rattle.plan.specs.declared.Decision.{Decision}
use Rattle.plan.specs.States.{State, Means, Sound}
use Rattle.plan.specs.Plans.{move_of, rows_of, cells_stay}
use Rattle.act.specs.Acted.{Acted, HandedOut}
use Rattle.door.specs.Served.{Serves, shortest, Calls, is_reader, is_teller, Reads, Tells}
use Rattle.door.specs.Within.{lent, CallsWithin, told_answer, told_rows, TellsWithin}
use Rattle.door.proofs.Deciding.{Decided, ready}

module _ {m : Command} {lent : ℕ} {s : State} {r : Decision} (p : Decided m lent s r) where
  answered : (c : Cache) → Means s c → r.answer ≡ (perform m lent c).answer
  unfolding perform
  answered c d = sym (ap (λ (v : Verdict). v.answer) (p.settles.means c d))

  handing : (c : Cache) → Means s c → rows_of r.plan c ≡ (perform m lent c).rows
  unfolding perform
  handing c d = sym (ap (λ (v : Verdict). v.rows) (p.settles.means c d))

  moving : (c : Cache) → Means s c → move_of r.plan c.slots.order ≡ (handed lent (verdict m c.desk)).move
  moving c d = sym (ap (λ (v : Verdict). v.move) (p.settles.means c d))

  leaving : (c : Cache) → Means s c → after (move_of r.plan c.slots.order) c ≡ (perform m lent c).left
  unfolding perform
  leaving c d = ap (λ (x : Move). after x c) (moving c d)

  pub serves : {t : State} → Sound s → Acted r.plan s t → Serves m lent s t r.answer
  serves {t} w a = record {
    sound = λ c d. record {
      answer = answered c d;
      left = subst (λ (x : Cache). Means t x) (leaving c d) (a.means c (ready p c d) d);
      tails = a.tails;
      cells = λ e. a.cells c (ready p c d) d (ap (λ (x : Move). cells_stay x c.desk) (moving c d) ∙ e);
    };
    unsound = λ n. absurd (n w);
  }

  hands : {rows rows' : Fields} → HandedOut r.plan s.head s.fields s.nexts s.prevs rows rows' → (c : Cache) → Means s c
      → Written (perform m lent c).rows rows rows'
  hands {rows} {rows'} o c d =
      subst (λ (x : List Row). Written x rows rows') (handing c d)
      (o.written c (p.settles.named c d) (record { stack = s.stack; cells = s.cells; described = d }))

module _ {m : Command} {room : ℕ} {s : State} {r : Decision} {rows rows' : Fields} (p : Decided m (lent room rows) s r) (w : Sound s)
    (o : HandedOut r.plan s.head s.fields s.nexts s.prevs rows rows') where
  pub calls_within : {t : State} → Acted r.plan s t → CallsWithin m room s t rows rows' r.answer
  calls_within a = record { serves = serves p w a; hands = hands p o; unsound = λ n. absurd (n w) }

  pub tells_within : is_teller (form_of m) ≡ true → TellsWithin m room s rows rows' r.answer
  tells_within k = record {
    answer = λ c d. rw k (answered p c d);
    hands = λ c d. rw k (hands p o c d);
    unsound = λ n. absurd (n w);
  }

-- with room for as many rows as the lists hold, a call is a call with all of them lent
all_lent : {room : ℕ} (rows : Fields) → room ≡ shortest rows → lent room rows ≡ shortest rows
all_lent rows e = rw e (let z : min (shortest rows) (shortest rows) ≡ shortest rows = omega arith in z)

module _ {m : Command} {room : ℕ} {s : State} {rows rows' : Fields} (e : room ≡ shortest rows) where
  pub calls : {t : State} {a : Answer} → CallsWithin m room s t rows rows' a → Calls m s t rows rows' a
  calls {t} {a} q = record {
    serves = subst (λ (n : ℕ). Serves m n s t a) (all_lent rows e) q.serves;
    hands = λ c d. subst (λ (n : ℕ). Written (perform m n c).rows rows rows') (all_lent rows e) (q.hands c d);
    unsound = q.unsound;
  }

  pub tells : {a : Answer} → TellsWithin m room s rows rows' a → Tells m s rows rows' a
  tells {a} q = record {
    answer = λ c d. subst (λ (n : ℕ). a ≡ told_answer m n c) (all_lent rows e) (q.answer c d);
    hands = λ c d. subst (λ (n : ℕ). Written (told_rows m n c) rows rows') (all_lent rows e) (q.hands c d);
    unsound = q.unsound;
  }

pub reads : {m : Command} {s : State} {r : Decision} → Decided m 0 s r → Sound s → is_reader (form_of m) ≡ true → Reads m s r.answer
reads p w k = record { sound = λ c d. rw k (answered p c d); unsound = λ n. absurd (n w) }

-- ---- what is refused before anything is decided

pub serves_none : {m : Command} {lent : ℕ} {s : State} → (Sound s → ⊥) → Serves m lent s s (No Unsound)
serves_none n = record { sound = λ c d. absurd (n (record { cache = c; described = d })); unsound = λ z. (refl, refl) }

module _ {m : Command} {room : ℕ} {s : State} {rows : Fields} where
  pub within_none : (Sound s → ⊥) → CallsWithin m room s s rows rows (No Unsound)
  within_none n = record {
    serves = serves_none n;
    hands = λ c d. absurd (n (record { cache = c; described = d }));
    unsound = λ z. refl;
  }

  pub told_none : (Sound s → ⊥) → TellsWithin m room s rows rows (No Unsound)
  told_none n = record {
    answer = λ c d. absurd (n (record { cache = c; described = d }));
    hands = λ c d. absurd (n (record { cache = c; described = d }));
    unsound = λ z. (refl, refl);
  }

  pub told_other : Sound s → is_teller (form_of m) ≡ false → TellsWithin m room s rows rows (No NotUnderstood)
  told_other w k = record {
    answer = λ c d. rw k refl;
    hands = λ c d. rw k (none_written rows);
    unsound = λ n. absurd (n w);
  }

pub reads_none : {m : Command} {s : State} → (Sound s → ⊥) → Reads m s (No Unsound)
reads_none n = record { sound = λ c d. absurd (n (record { cache = c; described = d })); unsound = λ z. refl }

pub reads_other : {m : Command} {s : State} → Sound s → is_reader (form_of m) ≡ false → Reads m s (No NotUnderstood)
reads_other w k = record { sound = λ c d. rw k refl; unsound = λ n. absurd (n w) }
