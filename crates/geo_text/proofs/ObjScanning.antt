-- Words of a text that is read from its front.
use Rattle.std.proofs.Common.{◌≡◌, ◌≢◌, ℕ, zero, suc, ◌+◌, ◌-◌, ◌<◌, ◌≤◌, List, [], ◌∷◌, ◌++◌, length, get_or, take, drop, append_assoc, Bool, true, false, Option, Some, None, refl, sym, ap, ◌∙◌, subst, arith, inl, inr}
use Rattle.std.specs.Prelude.{◌==◌, not, filter, option_map, slice_index, MatchOption}
use Rattle.std.specs.List.{slice_split, onto_first}
use Rattle.std.specs.Borrow.{Bor}
use Rattle.std.proofs.lemmas.Bool.{cases_Bool, and_parts}
use Rattle.std.proofs.lemmas.Bool.Decides.{nat_tests}
use Rattle.std.proofs.lemmas.List.{take_rest, drop_more, drop_all}
use Rattle.std.proofs.lemmas.List.Sums.{length-filter}
use Rattle.memchr.specs.Find.{Nowhere, Passes, is_byte, is_byte2, places}
use Rattle.memchr.proofs.lemmas.CallerLemmas.{length-places}
use Rattle.geo_text.specs.ObjLines.{joined, joint, behind_end, behind_line_feed, backslash_before, is_filled, is_blank, before_comment, words_of}
use Rattle.geo_text.specs.ObjScan.{is_line_feed, line_in, behind_line, all_words, words_here, ends_in, ends_word, is_word, is_apart, begins_word, begins_blank}

blank_ends_no_line : (b : ℕ) → is_blank b ≡ true → is_line_feed b ≡ false
blank_ends_no_line b h = grind (arith, nat_tests)

pub blank_before : (b : ℕ) (text : List ℕ) → is_blank b ≡ true → all_words (line_in (b ∷ text)) ≡ all_words (line_in text)
blank_before b text h = rw (blank_ends_no_line b h, h) refl

-- ---- a backslash, and an end of a line behind it
no_end : (r : Option (List ℕ)) (text : List ℕ) → behind_end (backslash_before r text) ≡ None
no_end None text = refl
no_end (Some rest) text = refl

no_feed : (r : Option (List ℕ)) (text : List ℕ) → behind_line_feed true (backslash_before r text) ≡ None
no_feed None text = refl
no_feed (Some rest) text = refl

feed_joined : (expected : Bool) (text : List ℕ) → behind_line_feed expected (joined text) ≡ option_map joined (behind_line_feed expected text)
feed_joined false text = refl
feed_joined true [] = refl
feed_joined true (b ∷ text) =
    elim (cases_Bool (b == 10)) [
      | inl end ↦ (let plain : (b == 92) ≡ false = grind (arith, nat_tests) in rw (plain, end) refl)
      | inr goes ↦ elim (cases_Bool (b == 92)) [
        | inl slash ↦ rw (slash, goes) (no_feed (behind_end (joined text)) (joined text))
        | inr plain ↦ rw (plain, goes) refl
      ]
    ]

end_joined : (text : List ℕ) → behind_end (joined text) ≡ option_map joined (behind_end text)
end_joined [] = refl
end_joined (b ∷ text) =
    elim (cases_Bool (b == 10)) [
      | inl end ↦ (let plain : (b == 92) ≡ false = grind (arith, nat_tests) in rw (plain, end) refl)
      | inr goes ↦ elim (cases_Bool (b == 92)) [
        | inl slash ↦ (let plain : (b == 13) ≡ false = grind (arith, nat_tests) in rw (slash, goes, plain) (no_end (behind_end (joined text)) (joined text)))
        | inr plain ↦ rw (plain, goes) (feed_joined (b == 13) text)
      ]
    ]

backslash_joined : (text : List ℕ) → joined (92 ∷ text) ≡ backslash_before (option_map joined (behind_end text)) (joined text)
backslash_joined text = ap (λ r. backslash_before r (joined text)) (end_joined text)

backslash_blank : (r : Option (Bor (List ℕ))) (text : List ℕ) → option_map (λ rest. rest.now) r ≡ behind_end text
    → MatchOption r (begins_blank (joined (92 ∷ text)) ≡ false) (λ rest. words_here rest.now ≡ words_here (92 ∷ text))
backslash_blank None text e = ap begins_blank (backslash_joined text ∙ ap (λ r. backslash_before (option_map joined r) (joined text)) (sym e))
backslash_blank (Some rest) text e =
    let whole : joined (92 ∷ text) ≡ joint ∷ joined rest.now = backslash_joined text ∙ ap (λ r. backslash_before (option_map joined r) (joined text)) (sym e) in
    sym (ap (λ l. words_of (line_in l)) whole ∙ ap before_comment (blank_before joint (joined rest.now) refl))

-- the same where the backslash is the first byte of a text
pub blank_behind : (text : List ℕ) (r : Option (Bor (List ℕ))) → 1 ≤ length text → get_or text 0 0 ≡ 92 → option_map (λ rest. rest.now) r ≡ behind_end (take (length text - 1) (drop 1 text))
    → MatchOption r (begins_blank (joined text) ≡ false) (λ rest. words_here rest.now ≡ words_here text)
blank_behind [] r some slash e = absurd (omega (arith, some))
blank_behind (b ∷ text) r some slash e =
    let first : 92 ∷ text ≡ b ∷ text = ap (λ x. x ∷ text) (sym slash) in
    subst (λ l. MatchOption r (begins_blank (joined l) ≡ false) (λ rest. words_here rest.now ≡ words_here l)) first
    (backslash_blank r text (e ∙ ap behind_end (take_rest (b ∷ text) 1)))

-- ---- bytes before the end of a line
pub line_from : (text : List ℕ) (at : ℕ) → Nowhere (Passes (is_byte2 10 92) text) 0 at → behind_line (joined text) ≡ behind_line (joined (drop at text))
line_from text zero before = refl
line_from [] (suc at) before = refl
line_from (b ∷ text) (suc at) before =
    elim (cases_Bool (is_byte2 10 92 b)) [
      | inl ends ↦ absurd (before 0 (omega arith) (omega arith) ends)
      | inr plain ↦
          let goes : (b == 10) ≡ false = grind (arith, nat_tests) in
          let whole : (b == 92) ≡ false = grind (arith, nat_tests) in
          rw (whole, goes) (line_from text at (λ k low high. before (suc k) (omega arith) (omega (arith, high))))
    ]

cut_at : (text : List ℕ) (at : ℕ) → at < length text → drop at text ≡ slice_index text at ∷ take (length text - (at + 1)) (drop (at + 1) text)
cut_at text at within = drop_more text at 0 within ∙ ap (λ rest. slice_index text at ∷ rest) (sym (take_rest text (at + 1)))

pub line_ends : (text : List ℕ) (at : ℕ) → at < length text → Nowhere (Passes (is_byte2 10 92) text) 0 at → slice_index text at ≡ 10
    → behind_line (joined text) ≡ Some (joined (take (length text - (at + 1)) (drop (at + 1) text)))
line_ends text at within before end =
    let more = take (length text - (at + 1)) (drop (at + 1) text) in
    line_from text at before ∙ ap (λ l. behind_line (joined l)) (cut_at text at within) ∙ ap (λ b. behind_line (joined (b ∷ more))) end

byte_at : (b : ℕ) → is_byte2 10 92 b ≡ true → b ≢ 10 → b ≡ 92
byte_at b found goes = grind (arith, nat_tests)

pub line_goes : (text : List ℕ) (at : ℕ) → at < length text → Nowhere (Passes (is_byte2 10 92) text) 0 at → Passes (is_byte2 10 92) text at → slice_index text at ≢ 10
    → behind_line (joined text) ≡ behind_line (joined (92 ∷ take (length text - (at + 1)) (drop (at + 1) text)))
line_goes text at within before found goes =
    let more = take (length text - (at + 1)) (drop (at + 1) text) in
    line_from text at before ∙ ap (λ l. behind_line (joined l)) (cut_at text at within) ∙ ap (λ b. behind_line (joined (b ∷ more))) (byte_at (slice_index text at) found goes)

pub line_whole : (text : List ℕ) → Nowhere (Passes (is_byte2 10 92) text) 0 (length text) → behind_line (joined text) ≡ None
line_whole text before = line_from text (length text) before ∙ ap (λ l. behind_line (joined l)) (drop_all (length text) text (omega arith))

-- ---- one more byte of a word
drop_next : (text : List ℕ) (len b : ℕ) (more : List ℕ) → drop len text ≡ b ∷ more → (len + 1 ≤ length text) × (take (len + 1) text ≡ take len text ++ b ∷ []) × (drop (len + 1) text ≡ more)
drop_next [] zero b more h = cc
drop_next [] (suc len) b more h = cc
drop_next (x ∷ text) zero b more h =
    let here : x ≡ b = cc in
    let behind : text ≡ more = cc in
    (omega arith, ap (λ y. y ∷ []) here, behind)
drop_next (x ∷ text) (suc len) b more h =
    let rest = drop_next text len b more h in
    let next : suc len + 1 ≡ suc (len + 1) = omega arith in
    (omega (arith, rest.0), ap (λ n. take n (x ∷ text)) next ∙ ap (λ l. x ∷ l) rest.1, ap (λ n. drop n (x ∷ text)) next ∙ rest.2)

is_word_more : (word : List ℕ) (b : ℕ) → is_word word ≡ true → ends_word b ≡ false → is_word (word ++ b ∷ []) ≡ true
is_word_more [] b h e = rw e refl
is_word_more (x ∷ word) b h e =
    let parts = and_parts (not (ends_word x)) (is_word word) h in
    rw parts.0 (is_word_more word b parts.1 e)

-- a byte of a word at the front of a text
abbrev Goes : List ℕ → Type 0
Goes text = (b : ℕ) × (more : List ℕ) × (text ≡ b ∷ more) × (joined text ≡ b ∷ joined more) × (ends_word b ≡ false)

backslash_goes : (r : Option (List ℕ)) (text : List ℕ) → is_apart (backslash_before r text) ≡ false → backslash_before r text ≡ 92 ∷ text
backslash_goes None text h = refl
backslash_goes (Some rest) text h = cc

word_goes : (text : List ℕ) → is_apart (joined text) ≡ false → Goes text
word_goes [] h = cc
word_goes (b ∷ text) h =
    elim (cases_Bool (b == 92)) [
      | inl slash ↦
          let same : b ≡ 92 = grind (arith, nat_tests) in
          let first = backslash_goes (behind_end (joined text)) (joined text) (rw slash at h) in
          (b, text, refl, rw slash (first ∙ ap (λ x. x ∷ joined text) (sym same)), ap ends_word same)
      | inr plain ↦ (b, text, refl, rw plain refl, rw plain at h)
    ]

pub word_more : (text : List ℕ) (len : ℕ) → joined text ≡ take len text ++ joined (drop len text) → is_word (take len text) ≡ true → is_apart (joined (drop len text)) ≡ false
    → (len + 1 ≤ length text) × (joined text ≡ take (len + 1) text ++ joined (drop (len + 1) text)) × (is_word (take (len + 1) text) ≡ true)
word_more text len whole word goes =
    let (b, more, at, first, inside) = word_goes (drop len text) goes in
    let next = drop_next text len b more at in (
      next.0,
      whole ∙ ap (λ l. take len text ++ l) first ∙ sym (append_assoc (take len text) (b ∷ []) (joined more))
          ∙ ap (λ l. l ++ joined more) (sym next.1) ∙ ap (λ l. take (len + 1) text ++ joined l) (sym next.2),
      subst (λ l. is_word l ≡ true) (sym next.1) (is_word_more (take len text) b word inside),
    )

-- ---- a word at the front
line_in_word : (word text : List ℕ) → is_word word ≡ true → line_in (word ++ text) ≡ word ++ line_in text
line_in_word [] text h = refl
line_in_word (b ∷ word) text h =
    let parts = and_parts (not (ends_word b)) (is_word word) h in
    let goes : is_line_feed b ≡ false = grind (arith, nat_tests) in
    rw goes (ap (λ l. b ∷ l) (line_in_word word text parts.1))

apart_parts : (text : List ℕ) → is_apart text ≡ true → (parts : List (List ℕ)) × (slice_split is_blank (line_in text) ≡ [] ∷ parts)
apart_parts [] h = ([], refl)
apart_parts (b ∷ text) h =
    elim (cases_Bool (is_line_feed b)) [
      | inl end ↦ ([], rw end refl)
      | inr goes ↦ (let blank : is_blank b ≡ true = grind (arith, nat_tests) in (slice_split is_blank (line_in text), rw (goes, blank) refl))
    ]

word_part : (word line : List ℕ) (parts : List (List ℕ)) → is_word word ≡ true → slice_split is_blank line ≡ [] ∷ parts → slice_split is_blank (word ++ line) ≡ word ∷ parts
word_part [] line parts h e = e
word_part (b ∷ word) line parts h e =
    let both = and_parts (not (ends_word b)) (is_word word) h in
    let inside : is_blank b ≡ false = grind (arith, nat_tests) in
    rw inside (ap (onto_first b) (word_part word line parts both.1 e))

all_words_word : (b : ℕ) (word text : List ℕ) → is_word (b ∷ word) ≡ true → is_apart text ≡ true → all_words (line_in (b ∷ word ++ text)) ≡ (b ∷ word) ∷ all_words (line_in text)
all_words_word b word text h apart =
    let (parts, split) = apart_parts text apart in
    ap all_words (line_in_word (b ∷ word) text h) ∙ ap (filter is_filled) (word_part (b ∷ word) (line_in text) parts h split)
    ∙ ap (λ l. (b ∷ word) ∷ l) (sym (ap (filter is_filled) split))

ended : (text : List ℕ) → is_apart text ≡ true → begins_blank text ≡ false → line_in text ≡ []
ended [] apart start = refl
ended (b ∷ text) apart start = let end : is_line_feed b ≡ true = grind (arith, nat_tests) in rw end refl

pub word_here : (text word rest : List ℕ) → joined text ≡ word ++ joined rest → is_word word ≡ true → is_apart (joined rest) ≡ true → begins_word word ≡ true
    → words_here text ≡ word ∷ words_here rest
word_here text [] rest e h apart begins = cc
word_here text (b ∷ word) rest e h apart begins =
    let plain : (b == 35) ≡ false = grind (arith, nat_tests) in
    ap (λ l. words_of (line_in l)) e ∙ ap before_comment (all_words_word b word (joined rest) h apart) ∙ rw plain refl

pub no_word_here : (text word rest : List ℕ) → joined text ≡ word ++ joined rest → is_word word ≡ true → is_apart (joined rest) ≡ true → begins_word word ≡ false
    → begins_blank (joined text) ≡ false → words_here text ≡ []
no_word_here text [] rest e h apart begins start =
    let same : joined text ≡ joined rest = e in
    ap words_of (ended (joined text) (subst (λ l. is_apart l ≡ true) (sym same) apart) start)
no_word_here text (b ∷ word) rest e h apart begins start =
    let comment : (b == 35) ≡ true = grind (arith, nat_tests) in
    ap (λ l. words_of (line_in l)) e ∙ ap before_comment (all_words_word b word (joined rest) h apart) ∙ rw comment refl

-- ---- ends of lines
count_behind : (expected : Bool) (text rest : List ℕ) → behind_line_feed expected text ≡ Some rest → ends_in text ≡ 1 + ends_in rest
count_behind false text rest e = cc
count_behind true [] rest e = cc
count_behind true (b ∷ text) rest e =
    elim (cases_Bool (b == 10)) [
      | inl end ↦ (let same : text ≡ rest = cc in rw end (ap (λ l. 1 + ends_in l) same))
      | inr goes ↦ cc
    ]

end_counted : (text rest : List ℕ) → behind_end text ≡ Some rest → ends_in text ≡ 1 + ends_in rest
end_counted [] rest e = cc
end_counted (b ∷ text) rest e =
    elim (cases_Bool (b == 10)) [
      | inl end ↦ (let same : text ≡ rest = cc in rw end (ap (λ l. 1 + ends_in l) same))
      | inr goes ↦ elim (cases_Bool (b == 13)) [
        | inl return ↦
            let inside : (b == joint) ≡ false = grind (arith, nat_tests) in
            let behind = rw (goes, return) at e in
            rw (goes, inside) (omega (arith, count_behind true text rest behind))
        | inr other ↦ cc
      ]
    ]

counted_before : (r : Option (List ℕ)) (text : List ℕ) → r ≡ behind_end text → ends_in (backslash_before r text) ≡ ends_in text
counted_before None text e = omega arith
counted_before (Some rest) text e = sym (end_counted text rest (sym e))

ends_filtered : (text : List ℕ) → ((k : ℕ) → get_or text k 0 < 256) → ends_in (joined text) ≡ length (filter (is_byte 10) text)
ends_filtered [] bytes = refl
ends_filtered (b ∷ text) bytes =
    let rest = ends_filtered text (λ k. bytes (suc k)) in
    let byte : b < 256 = bytes 0 in
    elim (cases_Bool (b == 92)) [
      | inl slash ↦
          let goes : (b == 10) ≡ false = grind (arith, nat_tests) in
          rw (slash, goes) (counted_before (behind_end (joined text)) (joined text) refl ∙ rest)
      | inr plain ↦
          let inside : (b == joint) ≡ false = grind (arith, nat_tests) in
          elim (cases_Bool (b == 10)) [
            | inl end ↦ rw (plain, end) (omega (arith, rest))
            | inr goes ↦ rw (plain, goes, inside) (omega (arith, rest))
          ]
    ]

pub ends_placed : (text : List ℕ) → ((k : ℕ) → get_or text k 0 < 256) → length (places (is_byte 10) text) ≡ ends_in (joined text)
ends_placed text bytes = length-places (is_byte 10) text ∙ sym (length-filter (is_byte 10) text) ∙ sym (ends_filtered text bytes)
