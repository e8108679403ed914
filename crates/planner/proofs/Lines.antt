-- A word more. Assumes nothing.
use Rattle.std.proofs.Common.{◌≡◌, ℕ, suc, ◌+◌, ◌<◌, List, [], ◌∷◌, ◌++◌, length, Ok, Err, string_bytes, sym, refl, ap, ◌∙◌, subst}
use Rattle.std.specs.Char.{is_whitespace, is_not_whitespace}
use Rattle.std.specs.Str.{NoCharPasses, EmptyOrStartsWithPassing}
use Rattle.planner.specs.Numerals.{ByteOf}
use Rattle.planner.specs.Words.{First, Begins}
use Rattle.planner.specs.Listed.{Spell, FirstBad}
use Rattle.planner.specs.declared.listing.BadWord.{BadWord}

-- what `split_whitespace` says of an item
pub first_of : (bs w rest : List ℕ) → (gap : List ℕ) × (bs ≡ gap ++ (w ++ rest)) × (0 < length w) × NoCharPasses is_not_whitespace gap × NoCharPasses is_whitespace w × ((more : List ℕ) × EmptyOrStartsWithPassing is_whitespace rest more) → First bs w rest
first_of bs w rest cut = record { gap = cut.0; cut = cut.1; some = cut.2; blank = cut.3; solid = cut.4; ends = cut.5 }

pub begins_more : (bs : List ℕ) (ws : List (List ℕ)) (mid w rest : List ℕ) → Begins bs ws mid → First mid w rest → Begins bs (ws ++ (w ∷ [])) rest
begins_more bs [] mid w rest e first = rw e (rest, first, refl)
begins_more bs (v ∷ ws) mid w rest h first = (h.0, h.1, begins_more h.0 ws mid w rest h.2 first)

pub spell_more : (ws : List (List ℕ)) (bs : List ℕ) (w : List ℕ) (b : ℕ) → Spell ws bs → ByteOf w (Ok b) → Spell (ws ++ (w ∷ [])) (bs ++ (b ∷ []))
spell_more [] [] w b s one = (one, tt)
spell_more [] (c ∷ bs) w b s one = elim s [ ]
spell_more (v ∷ ws) [] w b s one = elim s [ ]
spell_more (v ∷ ws) (c ∷ bs) w b s one = (s.0, spell_more ws bs w b s.1 one)

-- there is a byte for each word
pub spell_long : (ws : List (List ℕ)) (bs : List ℕ) → Spell ws bs → length bs ≡ length ws
spell_long [] [] s = refl
spell_long [] (b ∷ bs) s = elim s [ ]
spell_long (w ∷ ws) [] s = elim s [ ]
spell_long (w ∷ ws) (b ∷ bs) s = ap suc (spell_long ws bs s.1)

-- the loop's invariant: bs are the bytes of the words of line before rest
pub record Sofar (line rest bs : List ℕ) : Type 0 where
  pub seen : List (List ℕ)
  pub begins : Begins line seen rest
  pub spell : Spell seen bs

module _ {line rest bs : List ℕ} (old : Sofar line rest bs) where
  pub one_more : {w next more : List ℕ} {b : ℕ} → First rest w next → ByteOf w (Ok b) → more ≡ bs ++ (b ∷ []) → Sofar line next more
  one_more {w} {next} {more} {b} first one e = record {
    seen = old.seen ++ (w ∷ []);
    begins = begins_more line old.seen rest w next old.begins first;
    spell = rw e (spell_more old.seen bs w b old.spell one);
  }

  pub first_bad : {w next : List ℕ} (bad : BadWord) → string_bytes bad.word ≡ w → First rest w next → ByteOf w (Err bad.fault) → bad.number ≡ length bs + 1 → FirstBad line bad
  first_bad {w} {next} bad text first why place = record {
    before = old.seen;
    bytes = bs;
    rest = next;
    begins = subst (λ v. Begins line (old.seen ++ (v ∷ [])) next) (sym text) (begins_more line old.seen rest w next old.begins first);
    spell = old.spell;
    place = place ∙ ap (λ n. n + 1) (spell_long old.seen bs old.spell);
    why = subst (λ v. ByteOf v (Err bad.fault)) (sym text) why;
  }
