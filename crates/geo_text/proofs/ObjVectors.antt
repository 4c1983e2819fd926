-- What the numerals of a line say, word by word.
use Rattle.std.proofs.Common.{◌≡◌, ℕ, ◌<◌, List, [], ◌∷◌, length, refl, sym, ap, ◌∙◌, arith, inl, inr, Some, None}
use Rattle.std.specs.Prelude.{codes, Ok, pos}
use Rattle.sop_fixed.specs.declared.vec3.Vec3.{Vec3}
use Rattle.sop_fixed.specs.Numerals.{value_of}
use Rattle.geo_text.specs.ObjStatements.{vector_in, place_in, texture_in}
use Rattle.geo_text.specs.ObjScan.{place_from, IsNextOrZero}

pub no_place : (words : List (List ℕ)) (x y z : List ℕ) (rest : List (List ℕ)) → words ≡ x ∷ y ∷ z ∷ rest → vector_in x y z ≡ None → place_in words ≡ None
no_place words x y z [] e h = rw e (rw h refl)
no_place words x y z (a ∷ []) e h = rw e (rw h refl)
no_place words x y z (a ∷ b ∷ []) e h = rw e (rw h refl)
no_place words x y z (a ∷ b ∷ c ∷ rest) e h = rw e (rw h refl)

pub plain_place : (words : List (List ℕ)) (x y z : List ℕ) (rest : List (List ℕ)) (at : Vec3) → words ≡ x ∷ y ∷ z ∷ rest → length rest < 3 → vector_in x y z ≡ Some at
    → Some (place_from (at, None)) ≡ place_in words
plain_place words x y z [] at e h v = rw e (rw v refl)
plain_place words x y z (a ∷ []) at e h v = rw e (rw v refl)
plain_place words x y z (a ∷ b ∷ []) at e h v = rw e (rw v refl)
plain_place words x y z (a ∷ b ∷ c ∷ rest) at e h v = absurd (omega arith)

zero_word : value_of (codes "0") ≡ Ok (pos 0)
zero_word = refl

texture_behind : (x : List ℕ) (one : List (List ℕ)) (y : List ℕ) (two : List (List ℕ)) (z : List ℕ) (three : List (List ℕ))
    → IsNextOrZero one y two → IsNextOrZero two z three → vector_in x y z ≡ texture_in (x ∷ one)
texture_behind x one y two z three (inl a) (inl b) = rw (a, b) refl
texture_behind x one y two z three (inl a) (inr b) = rw (a, b.0, b.1) refl
texture_behind x one y two z three (inr a) (inl b) = let none : [] ≡ z ∷ three = sym a.2 ∙ b in cc
texture_behind x one y two z three (inr a) (inr b) = rw (a.0, a.1, b.1) refl

pub texture_words : (words : List (List ℕ)) (x : List ℕ) (one : List (List ℕ)) (y : List ℕ) (two : List (List ℕ)) (z : List ℕ) (three : List (List ℕ))
    → words ≡ x ∷ one → IsNextOrZero one y two → IsNextOrZero two z three → vector_in x y z ≡ texture_in words
texture_words words x one y two z three e a b = texture_behind x one y two z three a b ∙ ap texture_in (sym e)
