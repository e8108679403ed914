-- What the three copies of `write` leave, and that they are a table's bytes.
use Rattle.std.proofs.Common.{◌≡◌, ℕ, zero, suc, ◌+◌, ◌-◌, ◌<◌, ◌≤◌, eqb, ltb, List, [], ◌∷◌, ◌++◌, length, get_or, take, drop, sym, refl, ap, ◌∙◌, ap₂, ⊎_elim, append_assoc, length-append, length-drop, drop-drop, arith}
use borrow.Rule.Slice.PartMut.{put_mid}
use Rattle.std.proofs.lemmas.Bool.{cases_lt, lt-ltb, le-ltb, eq-eqb, ne_eqb, cond-true, cond-false}
use Rattle.std.proofs.lemmas.List.{ext_get_or, take_at, get_or_append_left, get_or-append_right, get_or-drop}
use Rattle.std.proofs.lemmas.Slice.{take-put_mid, drop-put_mid, drop-append-drop}
use Rattle.table.specs.Contents.{Contents, points, size, byte_of, bytes_of}
use Rattle.table.specs.declared.table.Table.{Table}
use Rattle.table.specs.Held.{contents}
use Rattle.table.specs.Answers.{Written}
use Rattle.table.proofs.Rounds.{bytes_length, bytes_at}
use Rattle.table.proofs.Rereads.{reread}

pub copies : (old head mid tail : List ℕ) (m s : ℕ) → length head ≡ 5 → length mid ≡ m → length tail ≡ 2 → s ≡ 7 + m → s ≤ length old
    → put_mid (5 + m) (s - (5 + m)) (put_mid 5 (5 + m - 5) (head ++ drop 5 old) mid) tail ≡ (head ++ mid ++ tail) ++ drop s old
copies old head mid tail m s lh lm lt e room =
    let xs : List ℕ = head ++ drop 5 old in
    let inner : List ℕ = put_mid 5 (5 + m - 5) xs mid in
    let long : length xs ≡ length old = length-append head (drop 5 old) ∙ omega (arith, length-drop 5 old) in
    let front : take (5 + m) inner ≡ head ++ mid = take-put_mid 5 (5 + m - 5) xs mid (5 + m) (omega arith) (omega arith) ∙ ap (λ z. z ++ mid) (take_at head (drop 5 old) 5 lh) in
    let count : 5 + m + (s - (5 + m)) ≡ s = omega arith in
    let back : drop (s - (5 + m)) (drop (5 + m) inner) ≡ drop s old =
    drop-drop (s - (5 + m)) (5 + m) inner ∙ ap (λ (z : ℕ). drop z inner) count
    ∙ drop-put_mid 5 (5 + m - 5) xs mid s (omega arith) (omega arith) (omega arith)
    ∙ drop-append-drop 5 old head s (omega arith) lh in
    ap₂ (λ x y. x ++ (tail ++ y)) front back ∙ simp append_assoc

module _ (t : Contents) (ps : List ℕ) (long : length ps ≡ points t) (same : (i : ℕ) → i < points t → get_or ps i 0 ≡ t.point i) where
  late : (j : ℕ) → j < 2 + points t → get_or (ps ++ 1 ∷ t.grade ∷ []) j 0 ≡ byte_of t (suc (suc (suc (suc (suc j)))))
  late j h =
      let m = points t in
      ⊎_elim
      (λ (l : j < m). get_or_append_left ps (1 ∷ t.grade ∷ []) 0 j (omega arith) ∙ same j l ∙ sym (cond-true (ltb j m) _ _ (lt-ltb j m l)))
      (λ (l : m ≤ j).
      get_or-append_right ps (1 ∷ t.grade ∷ []) m j 0 long l
      ∙ ⊎_elim
      (λ (q : j < suc m). let none : j - m ≡ 0 = omega arith in ap (λ x. get_or (1 ∷ t.grade ∷ []) x 0) none ∙ sym (cond-true (eqb j m) _ _ (eq-eqb j m (omega arith))))
      (λ (q : suc m ≤ j). let one : j - m ≡ 1 = omega arith in ap (λ x. get_or (1 ∷ t.grade ∷ []) x 0) one ∙ sym (cond-false (eqb j m) _ _ (ne_eqb j m (λ e. omega arith))))
      (cases_lt j (suc m))
      ∙ sym (cond-false (ltb j m) _ _ (le-ltb j m l)))
      (cases_lt j m)

  at : (i : ℕ) → i < size t → get_or (3 ∷ t.v ∷ t.n ∷ t.k ∷ t.n ∷ (ps ++ 1 ∷ t.grade ∷ [])) i 0 ≡ byte_of t i
  at zero h = refl
  at (suc zero) h = refl
  at (suc (suc zero)) h = refl
  at (suc (suc (suc zero))) h = refl
  at (suc (suc (suc (suc zero)))) h = refl
  at (suc (suc (suc (suc (suc j))))) h = late j (omega arith)

  pub sections : (3 ∷ t.v ∷ t.n ∷ t.k ∷ t.n ∷ []) ++ ps ++ 1 ∷ t.grade ∷ [] ≡ bytes_of t
  sections =
      let l : length (3 ∷ t.v ∷ t.n ∷ t.k ∷ t.n ∷ (ps ++ 1 ∷ t.grade ∷ [])) ≡ size t = omega (arith, length-append ps (1 ∷ t.grade ∷ [])) in
      ext_get_or 0 _ (bytes_of t) (l ∙ sym (bytes_length t)) (λ i h. at i (omega arith) ∙ sym (bytes_at t i (omega arith)))

-- the output begins with the table's bytes and goes on as it was
pub written : (t : Table) (old new : List ℕ) (s : ℕ) → new ≡ bytes_of (contents t) ++ drop s old → s ≡ size (contents t) → s ≤ length old → Written t old new s
written t old new s e long room =
    let bs : List ℕ = bytes_of (contents t) in
    let l : length bs ≡ s = bytes_length (contents t) ∙ sym long in
    let front : take s new ≡ bs = ap (take s) e ∙ take_at bs (drop s old) s l in
    record {
      all = sym l;
      room = room;
      front = front;
      rest = λ i h. ap (λ z. get_or z i 0) e ∙ get_or-append_right bs (drop s old) s i 0 l h ∙ get_or-drop s old (i - s) 0 ∙ ap (λ (z : ℕ). get_or old z 0) (let y : s + (i - s) ≡ i = omega arith in y);
      length_so = ap length e ∙ length-append bs (drop s old) ∙ omega (arith, length-drop s old);
      again = λ r d. reread t (take s new) front r d;
    }
