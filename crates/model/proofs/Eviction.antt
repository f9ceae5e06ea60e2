-- Eviction: the number that leaves by the budget is the number that document 01's loop from the back drops, it is enough, and one fewer is not.
-- Assumes nothing.
use Prim.Native.Nat.{ℕ, zero, suc, ◌+◌, ◌-◌, ◌≤◌, ◌<◌}
use mathlib.Core.Bool.{Bool, true, false}
use mathlib.Core.List.{List, [], ◌∷◌, ◌++◌}
use mathlib.Core.Path.{◌≡◌, refl, sym, ap, ◌∙◌, subst}
use native.Mathlib.Omega.{arith}
use lib.Dec.{eqb, leb, ltb}
use lib.ListN.{length, take, length-append}
use borrow.Author.Tests.{leb-true, leb-false, le-leb, ltb-true, ltb-false, lt-ltb, le-ltb, eqb-true, eqb-false}
use Rattle.head.specs.declared.Row.{Row}
use Rattle.model.specs.Lists.{but_last, oldest}
use Rattle.model.specs.Desk.{Desk, live, weighs, cost, fitting, leaving}
use Rattle.model.specs.Calls.{pushing}
use Rattle.model.specs.Claims.{spent, Looped}
use Rattle.model.proofs.Cases.{split}
use Rattle.model.proofs.Backs.{length_but_last, but_last_back, oldest_back, but_last_none, oldest_none, back_of}

pub fitting_le : (b : ℕ) (es : List Row) → fitting b es ≤ length es
fitting_le b [] = omega arith
fitting_le b (e ∷ es) =
    let r = fitting_le (b - cost e) es in
    split (leb (cost e) b) (λ t. rw t (omega arith)) (λ t. rw t (omega arith))

-- all of them fit where they take at most b
fitting_all : (b : ℕ) (es : List Row) → spent es ≤ b → fitting b es ≡ length es
fitting_all b [] h = refl
fitting_all b (e ∷ es) h =
    let t : leb (cost e) b ≡ true = le-leb (cost e) b (omega arith) in
    rw t (ap suc (fitting_all (b - cost e) es (omega arith)))

-- the front part that fits takes at most b
front_fits : (b : ℕ) (es : List Row) → spent (take (fitting b es) es) ≤ b
front_fits b [] = omega arith
front_fits b (e ∷ es) =
    let r = front_fits (b - cost e) es in
    split (leb (cost e) b)
    (λ t. let q : cost e ≤ b = leb-true (cost e) b t in rw t (omega arith))
    (λ t. rw t (omega arith))

-- any longer front part takes more
longer_not : (b n : ℕ) (es : List Row) → fitting b es < n → n ≤ length es → b < spent (take n es)
longer_not b zero es h k = absurd (omega arith)
longer_not b (suc n) [] h k = absurd (omega arith)
longer_not b (suc n) (e ∷ es) h k =
    split (leb (cost e) b)
    (λ t. let r = longer_not (b - cost e) n es (tight t) (omega arith) in omega (arith, leb-true (cost e) b t))
    (λ t. omega (arith, leb-false (cost e) b t))
  where
    tight : leb (cost e) b ≡ true → fitting (b - cost e) es < n
    tight t = let z : suc (fitting (b - cost e) es) < suc n = rw t at h in omega arith

-- a front part that has all that fit has as many that fit
fitting_take : (b n : ℕ) (es : List Row) → fitting b es ≤ n → fitting b (take n es) ≡ fitting b es
fitting_take b zero [] h = refl
fitting_take b (suc n) [] h = refl
fitting_take b zero (e ∷ es) h =
    split (leb (cost e) b)
    (λ t. let z : suc (fitting (b - cost e) es) ≤ 0 = rw t at h in absurd (omega arith))
    (λ t. rw t)
fitting_take b (suc n) (e ∷ es) h =
    split (leb (cost e) b)
    (λ t. let z : suc (fitting (b - cost e) es) ≤ suc n = rw t at h in rw t (ap suc (fitting_take (b - cost e) n es (omega arith))))
    (λ t. rw t)

-- a front part weighs no more than the whole
pub weighs_take : (n : ℕ) (es : List Row) → weighs (take n es) ≤ weighs es
weighs_take zero es = omega arith
weighs_take (suc n) [] = omega arith
weighs_take (suc n) (e ∷ es) = let r = weighs_take n es in omega arith

-- what stays is the front part that fits
pub stays : (b : ℕ) (es : List Row) → length es - leaving b es ≡ fitting b es
stays b es = omega (arith, fitting_le b es)

-- enough leave
pub enough : (b : ℕ) (es : List Row) → spent (but_last (leaving b es) es) ≤ b
enough b es = rw (stays b es) (front_fits b es)

-- and no more than needed: one row fewer, or any number fewer, would not fit
pub needed : (b k : ℕ) (es : List Row) → k < leaving b es → b < spent (but_last k es)
needed b k es h = longer_not b (length es - k) es (omega arith) (omega arith)

-- none leave exactly where all fit
pub none_leave : (b : ℕ) (es : List Row) → spent es ≤ b → leaving b es ≡ 0
none_leave b es h = omega (arith, fitting_all b es h)

-- where they take more than b, not all fit
pub not_all : (b : ℕ) (es : List Row) → b < spent es → fitting b es < length es
not_all b [] h = absurd (omega arith)
not_all b (e ∷ es) h =
    split (leb (cost e) b)
    (λ t.
    let q : cost e ≤ b = leb-true (cost e) b t in
    let r = not_all (b - cost e) es (omega arith) in
    rw t (omega arith))
    (λ t. rw t (omega arith))

-- then one leaves from the back, and of the rest as many as by themselves
pub one_more : (b : ℕ) (es : List Row) → b < spent es → leaving b es ≡ suc (leaving b (but_last 1 es))
one_more b es h =
    let f = not_all b es h in
    let t = fitting_take b (length es - 1) es (omega arith) in
    omega (arith, length_but_last 1 es)

module _ (b : ℕ) (over : List Row → Bool) (same : (es : List Row) → over es ≡ ltb b (spent es)) where
  -- all fit
  ended : (n : ℕ) (es : List Row) → spent es ≤ b → Looped b n over es
  ended zero es h = record {
    left = rw (none_leave b es h) (sym (but_last_none es));
    out = rw (none_leave b es h) (sym (oldest_none es));
  }
  ended (suc n) es h =
      let t : over es ≡ false = same es ∙ le-ltb b (spent es) h in
      record {
        left = rw (t, none_leave b es h) (sym (but_last_none es));
        out = rw (t, none_leave b es h) (sym (oldest_none es));
      }

  -- the back x goes, and the loop goes on
  turned : (n : ℕ) (xs : List Row) (x : Row) → b < spent (xs ++ (x ∷ [])) → Looped b n over xs
      → Looped b (suc n) over (xs ++ (x ∷ []))
  turned n xs x h r =
      let t : over (xs ++ (x ∷ [])) ≡ true = same (xs ++ (x ∷ [])) ∙ lt-ltb b (spent (xs ++ (x ∷ []))) h in
      let rest : but_last 1 (xs ++ (x ∷ [])) ≡ xs = but_last_back 0 xs x ∙ but_last_none xs in
      let back : oldest 1 (xs ++ (x ∷ [])) ≡ x ∷ [] = oldest_back 0 xs x ∙ ap (λ (l : List Row). x ∷ l) (oldest_none xs) in
      let more : leaving b (xs ++ (x ∷ [])) ≡ suc (leaving b xs) =
      one_more b (xs ++ (x ∷ [])) h ∙ ap (λ (l : List Row). suc (leaving b l)) rest in
      record {
        left = rw (t, rest, more, but_last_back (leaving b xs) xs x) r.left;
        out = rw (t, rest, back, more, oldest_back (leaving b xs) xs x) (ap (λ (l : List Row). x ∷ l) r.out);
      }

  loop : (n : ℕ) (es : List Row) → length es ≤ n → Looped b n over es
  loop zero [] h = ended zero [] (omega arith)
  loop zero (e ∷ es) h = absurd (omega arith)
  loop (suc n) [] h = ended (suc n) [] (omega arith)
  loop (suc n) (e ∷ es) h =
      let v = back_of (e ∷ es) (omega arith) in
      let xs = v.front in
      let x = v.back in
      let shorter : length xs ≤ n = omega (arith, ap length v.same, length-append xs (x ∷ [])) in
      split (ltb b (spent (e ∷ es)))
      (λ t.
      subst (λ (l : List Row). b < spent l → Looped b (suc n) over l) (sym v.same)
      (λ more. turned n xs x more (loop n xs shorter))
      (ltb-true b (spent (e ∷ es)) t))
      (λ t. ended (suc n) (e ∷ es) (ltb-false b (spent (e ∷ es)) t))

-- 01's words for `resize`: from the back while d < live + weight
pub resize_loop : (d : ℕ) (es : List Row) → Looped d (length es) (λ (l : List Row). ltb d (length l + weighs l)) es
resize_loop d es = loop d (λ (l : List Row). ltb d (length l + weighs l)) (λ l. refl) (length es) es (omega arith)

-- 01's words for `put_with_weight`: from the back while live + weight + w >= c
pub put_loop : (c w : ℕ) (es : List Row) → w < c
    → Looped (c - 1 - w) (length es) (λ (l : List Row). leb c (length l + weighs l + w)) es
put_loop c w es h = loop (c - 1 - w) (λ (l : List Row). leb c (length l + weighs l + w)) same (length es) es (omega arith)
  where
    same : (l : List Row) → leb c (length l + weighs l + w) ≡ ltb (c - 1 - w) (spent l)
    same l =
        split (leb c (length l + weighs l + w))
        (λ t. t ∙ sym (lt-ltb (c - 1 - w) (spent l) (omega (arith, leb-true c (length l + weighs l + w) t))))
        (λ t. t ∙ sym (le-ltb (c - 1 - w) (spent l) (omega (arith, leb-false c (length l + weighs l + w) t))))

-- `put` on a plain cache pushes out by the same rule
pub pushing_leaves : (d : Desk) → 1 ≤ d.capacity → weighs d.entries ≡ 0 → live d ≤ d.capacity
    → pushing d ≡ leaving (d.capacity - 1) d.entries
pushing_leaves d some light fits =
    split (eqb (live d) d.capacity)
    (λ t.
    let full = eqb-true (live d) d.capacity t in
    let more = one_more (d.capacity - 1) d.entries (omega arith) in
    let rest = none_leave (d.capacity - 1) (but_last 1 d.entries) (omega (arith, length_but_last 1 d.entries, weighs_take (live d - 1) d.entries)) in
    rw t (omega arith))
    (λ t. rw t (sym (none_leave (d.capacity - 1) d.entries (omega (arith, eqb-false (live d) d.capacity t)))))
