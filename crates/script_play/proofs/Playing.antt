-- The lines carried out so far, as the loop of `play` goes on.
-- Assumes nothing.
use Prim.Native.Nat.{ℕ, zero, suc, ◌-◌, ◌*◌, ◌≤◌, ◌<◌}
use mathlib.Core.Bool.{Bool, true, false, true≢false}
use mathlib.Core.List.{List, [], ◌∷◌, ◌++◌}
use mathlib.Core.Path.{◌≡◌, refl, ap, ◌∙◌}
use native.Mathlib.Omega.{arith}
use lib.ListN.{length, take, drop, length-drop}
use lib.Seq.{slice}
use Rattle.head.specs.Fields.{Fields}
use Rattle.plan.specs.States.{State}
use Rattle.head.specs.declared.Answer.{Answer}
use Rattle.door.specs.Served.{shortest}
use Rattle.script_write.specs.Lines.{most_line}
use Rattle.script_digits.proofs.Laying.{laid_size}
use Rattle.script_play.specs.Cutting.{lines_of, line_end, next_line}
use Rattle.script_play.specs.Playing.{Plays, Lent, handed, Carried, InTurn, none, more, Played}
use Rattle.script_play.proofs.Cut.{part_is, line_start, ends_inside, line_here, none_left}
use Rattle.script_play.proofs.Room.{room_stays}

-- one line more
turns_on : {ls : List (List ℕ)} {said : List Answer} {a : Answer} {size : ℕ} {x y : Lent} (l : List ℕ) (z : Lent) → InTurn ls x said y → Carried l y a size z → InTurn (ls ++ (l ∷ [])) x (said ++ (a ∷ [])) z
turns_on l z none t = more t none
turns_on l z (more p q) t = more p (turns_on l z q t)

take_on : (k : ℕ) (ls : List (List ℕ)) {l : List ℕ} {rest : List (List ℕ)} → drop k ls ≡ l ∷ rest → take (suc k) ls ≡ take k ls ++ (l ∷ [])
take_on zero ls e = rw e
take_on (suc k) [] e = absurd (omega (arith, ap length e))
take_on (suc k) (x ∷ xs) e = ap (λ (m : List (List ℕ)). x ∷ m) (take_on k xs e)

-- the invariant: the lines before `from` were carried out from x to y, and `from` is past the end once an answer could not be written
pub record Going (input : List ℕ) (n : ℕ) (x y : Lent) (from : ℕ) (written : Bool) : Type 0 where
  pub inside : n ≤ length input
  pub short : n ≤ 32768
  pub room : suc (shortest y.rows) * most_line ≤ length y.out
  pub line : ℕ
  pub answers : List Answer
  pub turns : InTurn (take line (lines_of (take n input))) x answers y
  pub place : written ≡ true → from ≡ line_start input n line
  pub stopped : written ≡ false → n ≤ from

pub going_first : {input : List ℕ} {n : ℕ} {s : State} {rows : Fields} {out : List ℕ} → Plays input n rows out
    → Going input n (handed s rows out) (handed s rows out) 0 true
going_first p = record {
  inside = p.inside;
  short = p.short;
  room = p.room;
  line = 0;
  answers = [];
  turns = none;
  place = λ z. refl;
  stopped = λ z. absurd (true≢false z);
}

further : {n from to next : ℕ} (w : Bool) → from ≤ to → from < n → next ≡ next_line w to n → from < next
further true k h m = omega arith
further false k h m = omega arith

still : {n from : ℕ} (written : Bool) → (written ≡ false → n ≤ from) → from < n → written ≡ true
still true s h = refl
still false s h = absurd (omega (arith, s refl))

module _ {input : List ℕ} {n : ℕ} {x y : Lent} {from : ℕ} {written : Bool} (g : Going input n x y from written) where
  -- none are left: where every answer was written, there is no line more
  pub going_last : n ≤ from → Played input n x y written
  going_last h = record {
    count = g.line;
    answers = g.answers;
    turns = g.turns;
    whole = λ w.
        let e = g.place w in
        let None-more = none_left input n g.line (omega arith) in
        omega (arith, ap length None-more, length-drop g.line (lines_of (take n input)));
  }

  -- bytes are left, so every answer was written, and the next line begins here
  module _ (h : from < n) where
    here : from ≡ line_start input n g.line
    here = g.place (still written g.stopped h)

    pub going_cuts : (from ≤ n) × (n ≤ length input)
    going_cuts = (omega arith, g.inside)

    module _ {to : ℕ} (e : to ≡ line_end input from n) where
      ordered : from ≤ to
      ordered = omega arith

      inside : to ≤ n
      inside = omega (arith, ends_inside input n g.inside from (omega arith))

      pub going_inside : to ≤ length input
      going_inside = omega (arith, inside, g.inside)

      -- the bytes of the line, as a part of the input
      pub going_line : take (to - from) (drop from input) ≡ slice from to input
      going_line = part_is input from to ordered

      pub going_further : (to ≤ n) × (n ≤ 32768)
      going_further = (inside, g.short)

      module _ {next : ℕ} (w : Bool) (m : next ≡ next_line w to n) where
        pub going_less : n - next < n - from
        going_less = omega (arith, further w ordered h m)

        pub going_on : {z : Lent} {a : Answer} {size : ℕ} → Carried (take (to - from) (drop from input)) y a size z
            → length z.rows.codes ≡ length y.rows.codes
            → length z.rows.stamps ≡ length y.rows.stamps
            → length z.rows.values ≡ length y.rows.values
            → length z.rows.weights ≡ length y.rows.weights
            → Going input n x z next w
        going_on {z} {a} t p q r s =
            let b : from ≡ line_start input n g.line = here in
            let cut : drop g.line (lines_of (take n input)) ≡ slice from to input ∷ drop (suc g.line) (lines_of (take n input)) =
            rw (e, b) (line_here input n g.line g.inside (rw b at h)) in
            record {
              inside = g.inside;
              short = g.short;
              room = room_stays y.rows z.rows y.out z.out p q r s (laid_size t.text) g.room;
              line = suc g.line;
              answers = g.answers ++ (a ∷ []);
              turns = rw (take_on g.line (lines_of (take n input)) cut) (turns_on (slice from to input) z g.turns (rw going_line at t));
              place = λ k. m ∙ ap (λ (v : Bool). next_line v to n) k ∙ rw (e, b);
              stopped = λ k. omega (arith, m ∙ ap (λ (v : Bool). next_line v to n) k);
            }
