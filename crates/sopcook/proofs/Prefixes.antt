-- What was appended in parts.
use Rattle.std.proofs.Common.{◌≡◌, ℕ, ◌+◌, ◌≤◌, List, [], ◌++◌, length, take, refl, sym, ◌∙◌, ap, arith, length-append, append-nil}
use Rattle.std.specs.Prelude.{Option, None, Some}
use Rattle.std.proofs.lemmas.Grind.{common_steps}
use Rattle.std.proofs.Math.Seq.{take-length, take-append-add}
use Rattle.sop_outside.specs.Causes.{Rose}
use Rattle.sop_outside.specs.Told.{appended, AppendsPrefix}
use Rattle.sop_outside.proofs.Appended.{appended-append}

pub rose_later : (a b c : ℕ) → Rose a b → b ≤ c → Rose a c
rose_later a b c h le = omega (arith, h, le)

pub rose_before : (a b c : ℕ) → a ≤ b → Rose b c → Rose a c
rose_before a b c le h = omega (arith, h, le)

pub appended-nil : (told : Option (List ℕ)) → appended told [] ≡ told
appended-nil None = refl
appended-nil (Some bytes) = ap Some (append-nil bytes)

-- all of some bytes is a prefix of them, and so is none
pub AppendsPrefix-whole : (before now : Option (List ℕ)) (bytes : List ℕ) → now ≡ appended before bytes → AppendsPrefix before now bytes
AppendsPrefix-whole before now bytes told = record { count = length bytes; within = omega arith; told = told ∙ ap (appended before) (sym (take-length bytes)) }

pub AppendsPrefix-none : (before now : Option (List ℕ)) (bytes : List ℕ) → now ≡ before → AppendsPrefix before now bytes
AppendsPrefix-none before now bytes told = record { count = 0; within = omega arith; told = told ∙ sym (appended-nil before) }

-- a prefix behind what was appended before
pub prefix_behind : (before mid now : Option (List ℕ)) (echo bytes : List ℕ) → mid ≡ appended before echo → AppendsPrefix mid now bytes → AppendsPrefix before now (echo ++ bytes)
prefix_behind before mid now echo bytes first rest = record {
  count = length echo + rest.count;
  within = let all = length-append echo bytes in let within = rest.within in omega arith;
  told =
      rest.told
      ∙ ap (λ told. appended told (take rest.count bytes)) first
      ∙ appended-append before echo (take rest.count bytes)
      ∙ ap (appended before) (sym (take-append-add echo bytes rest.count));
}

take_front : (n : ℕ) (xs ys : List ℕ) → n ≤ length xs → take n (xs ++ ys) ≡ take n xs
take_front n xs ys le = grind (arith, common_steps)

-- a prefix of the front is a prefix
pub front_prefix : (before now : Option (List ℕ)) (echo bytes : List ℕ) → AppendsPrefix before now echo → AppendsPrefix before now (echo ++ bytes)
front_prefix before now echo bytes front = record {
  count = front.count;
  within = let all = length-append echo bytes in let within = front.within in omega arith;
  told = front.told ∙ ap (appended before) (sym (take_front front.count echo bytes front.within));
}

-- what was appended behind an echo
pub told_behind : (before mid now : Option (List ℕ)) (echo bytes : List ℕ) → mid ≡ appended before echo → now ≡ appended mid bytes → now ≡ appended before (echo ++ bytes)
told_behind before mid now echo bytes first rest = rest ∙ ap (λ told. appended told bytes) first ∙ appended-append before echo bytes
