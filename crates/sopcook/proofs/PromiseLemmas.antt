-- What a run promises, by the way it ends.
use Rattle.std.proofs.Common.{◌≡◌, ℕ, ◌≤◌, List, [], ◌⊎◌, inl, inr, refl, sym, ◌∙◌, ap, subst, arith}
use Rattle.std.specs.Prelude.{Option, None, Some, IfSome}
use Rattle.sop_outside.specs.Causes.{Rose}
use Rattle.sop_outside.specs.Load.{Names, load_of}
use Rattle.sop_outside.specs.Told.{appended, AppendsPrefix}
use Rattle.hscript_text.specs.declared.refusal.ScriptKind.{ScriptKind}
use Rattle.hscript_text.specs.declared.script.Script.{Script}
use Rattle.sopcook.specs.declared.answer.Answer.{Answer}
use Rattle.sopcook.specs.declared.run_end.RunEnd.{RunEnd}
use Rattle.sopcook.specs.declared.run_end.RunEnd.TheVariants as end
use Rattle.sopcook.specs.declared.script.Opening.TheVariants.{Read, Refused}
use Rattle.hscript_text.specs.Limits.{most_script_bytes}
use Rattle.sopcook.specs.Request.{Asked, request_of}
use Rattle.sopcook.specs.Answer.{no_script, script_too_long, line_answer, no_node, echoing, node_answer, script_answer, loaded_answer, asked_answer, answer_of, script_echo, loaded_echo, asked_echo, echo_of, read_line}
use Rattle.sopcook.specs.Promise.{FilesSeen, Outside, Delivers, DeliversPrefix, IsEcho, EndsWithLine, GoesOn, Promise}
use Rattle.sopcook.specs.Endings.{IsOpening, IsCaused, Delivery, EndWithout, ScriptEnding}
use Rattle.sopcook.proofs.Prefixes.{rose_before, AppendsPrefix-whole, AppendsPrefix-none, front_prefix}
use Rattle.sopcook.proofs.LineLemmas.{line_no_script, line_too_long, line_refusal, line_read, ends_as}
use Rattle.sopcook.proofs.EndingLemmas.{each_told, always_told, unanswered, not_delivered, end_status, end_is_read, from_five}

-- words that are asked for aren't refused
not_refused : {R : Type 0} (words : List (List ℕ)) (request : Asked) → request_of words ≡ Some request → request_of words ≡ None → R
not_refused {R} words request some none = let no : Some request ≡ None = sym some ∙ none in let bad : ⊥ = cc in absurd bad

module _ (words : List (List ℕ)) (request : Asked) (asked : request_of words ≡ Some request) where
  -- the answer and the echo of a script that was loaded and read
  script_answers : (script : Script) (names : Names) → IsOpening (load_of names request.script most_script_bytes) (Read script) → echoing script.echoed (node_answer names script.net.nodes request) ≡ answer_of words names
  script_answers script names (bytes, loaded, read) =
      sym (ap (asked_answer names) asked ∙ ap (loaded_answer names request) loaded ∙ ap (script_answer names request) read)

  script_echoes : (script : Script) (names : Names) → IsOpening (load_of names request.script most_script_bytes) (Read script) → script.echoed ≡ echo_of words names
  script_echoes script names (bytes, loaded, read) = sym (ap (asked_echo names) asked ∙ ap loaded_echo loaded ∙ ap script_echo read)

  -- the answer that refuses a script
  refused_answers : (answer : Answer) (names : Names) → IsOpening (load_of names request.script most_script_bytes) (Refused answer) → answer ≡ answer_of words names
  refused_answers answer names opening = sym (ap (asked_answer names) asked ∙ (opening names request).0)

  is_echo : (script : Script) (told : Option Names) → IfSome told (λ names. IsOpening (load_of names request.script most_script_bytes) (Read script)) → IsEcho told words script.echoed
  is_echo script None opening = tt
  is_echo script (Some names) opening = inr (script_echoes script names opening)

  no_echo : (told : Option Names) → IsEcho told words []
  no_echo None = tt
  no_echo (Some names) = inl refl

  -- the load of the script failed, or memory was wanting
  pub unopened_promise : (e : RunEnd) (status : ℕ) (before now : Outside) → (e ≡ end.Read → Rose before.files.faults now.files.faults) → now.out.told ≡ before.out.told → EndWithout e status before.err now.err
      → GoesOn before now → Promise words status before now
  unopened_promise e status before now cause out w on =
      let many : 5 ≤ status = from_five status (end_status w) in
      record {
        is_status = inr (end_status w);
        answered = λ a. absurd (unanswered status a many);
        read_fault = λ five. (
          cause (end_is_read w (omega (arith, five))),
          record { echo = []; is_echo = no_echo before.files.told; out = out; err = ends_as [] read_line read_line before.err now.err (inl refl) line_read refl (w.written five) },
        );
        write_fault = λ six. inr (w.failed six).0;
        part = λ six. inr (cause (end_is_read w (omega (arith, six))), record { echo = []; is_echo = no_echo before.files.told; out = out; err = (w.failed six).1 });
        memory = λ seven. record {
          out = out;
          err = always_told (λ names. AppendsPrefix before.err.told now.err.told (answer_of words names).err) before.files.told
              (λ names. AppendsPrefix-none before.err.told now.err.told (answer_of words names).err (w.memory seven));
        };
        words_refused = λ two. absurd (omega (arith, two, many));
        refused_words = λ none. not_refused words request asked none;
        refusal = λ three. absurd (omega (arith, three, many));
        fault = λ four. absurd (omega (arith, four, many));
        on = on;
      }

  -- the script was read from these files, and the run went on with it
  pub script_promise : (script : Script) (status : ℕ) (before now : Outside) (mid : FilesSeen) → IfSome before.files.told (λ names. IsOpening (load_of names request.script most_script_bytes) (Read script))
      → mid.told ≡ before.files.told → before.files.faults ≤ mid.faults → before.files.misses ≤ mid.misses → before.files.overs ≤ mid.overs
      → ScriptEnding script request status (record { files = mid; out = before.out; err = before.err }) now → Promise words status before now
  script_promise script status before now mid opening told faults misses overs e =
      let whole : Names → Answer = λ names. echoing script.echoed (node_answer names script.net.nodes request) in
      let meant : IfSome before.files.told (λ names. whole names ≡ answer_of words names) =
      each_told (λ names. IsOpening (load_of names request.script most_script_bytes) (Read script)) (λ names. whole names ≡ answer_of words names) before.files.told (λ names o. script_answers script names o) opening in
      let echo = is_echo script before.files.told opening in
      record {
        is_status = e.is_status;
        answered = λ a.
            both before.files.told (λ names. whole names ≡ answer_of words names) (λ names. Delivers (whole names) status before now) (λ names. Delivers (answer_of words names) status before now)
            (λ names is d. subst (λ (b : Answer). Delivers b status before now) is d) meant
            (subst (λ t. IfSome t (λ names. Delivers (whole names) status before now)) told
            (each_told (λ names. Delivers (whole names) status (record { files = mid; out = before.out; err = before.err }) now) (λ names. Delivers (whole names) status before now) mid.told
            (λ names d. record { is_status = d.is_status; out = d.out; err = d.err }) (e.answered a)));
        read_fault = λ five.
            let r = e.read_fault five in
            (rose_before before.files.faults mid.faults now.files.faults faults r.0, record { echo = script.echoed; is_echo = echo; out = r.1; err = r.2 });
        write_fault = e.write_fault;
        part = λ six. elim (e.part six) [
          | inl p ↦
              inl
              (both before.files.told (λ names. whole names ≡ answer_of words names) (λ names. DeliversPrefix (whole names) before now) (λ names. DeliversPrefix (answer_of words names) before now)
              (λ names is d. subst (λ (b : Answer). DeliversPrefix b before now) is d) meant
              (subst (λ t. IfSome t (λ names. DeliversPrefix (whole names) before now)) told
              (each_told (λ names. DeliversPrefix (whole names) (record { files = mid; out = before.out; err = before.err }) now) (λ names. DeliversPrefix (whole names) before now) mid.told
              (λ names d. record { out = d.out; err = d.err }) p)))
          | inr r ↦ inr (rose_before before.files.faults mid.faults now.files.faults faults r.0, record { echo = script.echoed; is_echo = echo; out = r.1; err = r.2 })
        ];
        memory = λ seven.
            let m = e.memory seven in
            record {
              out = m.0;
              err = each_told (λ names. whole names ≡ answer_of words names) (λ names. AppendsPrefix before.err.told now.err.told (answer_of words names).err) before.files.told
                  (λ names is. subst (λ (b : Answer). AppendsPrefix before.err.told now.err.told b.err) is
                  (front_prefix before.err.told now.err.told script.echoed (node_answer names script.net.nodes request).err (AppendsPrefix-whole before.err.told now.err.told script.echoed m.1))) meant;
            };
        words_refused = λ two. absurd (e.no_words two);
        refused_words = λ none. not_refused words request asked none;
        refusal = λ three. inr (inr (inr (script.echoed, e.no_node three)));
        fault = λ four.
            let s = e.fault four in
            record {
              echo = s.echo;
              node = s.node;
              fault = s.fault;
              err = s.err;
              is_name = s.is_name;
              no_file = λ no_file. rose_before before.files.misses mid.misses now.files.misses misses (s.no_file no_file);
            };
        on =
            let on = e.on in
            let f = on.file_faults in
            let m = on.misses in
            let o = on.overs in
            record {
              told = on.told ∙ told;
              file_faults = omega (arith, f, faults);
              misses = omega (arith, m, misses);
              overs = omega (arith, o, overs);
              out_faults = on.out_faults;
              err_faults = on.err_faults;
            };
      }
    where
      both : {A : Type 0} (told : Option A) (P Q R : A → Type 0) → ((names : A) → P names → Q names → R names) → IfSome told P → IfSome told Q → IfSome told R
      both {A} None P Q R each p q = tt
      both {A} (Some names) P Q R each p q = each names p q

  -- the script was refused
  pub refused_promise : (answer : Answer) (status : ℕ) (before now : Outside) → IfSome before.files.told (λ names. IsOpening (load_of names request.script most_script_bytes) (Refused answer))
      → IsCaused (Rose before.files.misses now.files.misses) (Rose before.files.overs now.files.overs) (Refused answer) → Delivery answer status before.out now.out before.err now.err → GoesOn before now
      → Promise words status before now
  refused_promise answer status before now opening cause d on =
      let no : 5 ≤ status → (status ≡ 6 → ⊥) → ⊥ = not_delivered status d.is_status in
      let meant : IfSome before.files.told (λ names. answer ≡ answer_of words names) =
      each_told (λ names. IsOpening (load_of names request.script most_script_bytes) (Refused answer)) (λ names. answer ≡ answer_of words names) before.files.told (λ names o. refused_answers answer names o) opening in
      let three : answer.status ≡ 3 = refusal_status answer _ _ cause in
      record {
        is_status = elim d.is_status [ inl a ↦ inl a | inr six ↦ inr (inr (inl six)) ];
        answered = λ a.
            let w = d.answered a in
            each_told (λ names. answer ≡ answer_of words names) (λ names. Delivers (answer_of words names) status before now) before.files.told
            (λ names is. subst (λ (b : Answer). Delivers b status before now) is (record { is_status = w.0; out = w.1; err = w.2 })) meant;
        read_fault = λ five. absurd (no (omega (arith, five)) (λ six. omega (arith, five, six)));
        write_fault = λ six. d.failed six;
        part = λ six. inl (each_told (λ names. answer ≡ answer_of words names) (λ names. DeliversPrefix (answer_of words names) before now) before.files.told
            (λ names is. subst (λ (b : Answer). DeliversPrefix b before now) is (record { out = d.out; err = d.err })) meant);
        memory = λ seven. absurd (no (omega (arith, seven)) (λ six. omega (arith, seven, six)));
        words_refused = λ two. absurd (let same = (d.answered (inr (inl two))).0 in omega (arith, same, two, three));
        refused_words = λ none. not_refused words request asked none;
        refusal = λ is. says answer before now _ _ cause (d.answered (inr (inr (inl is)))).2;
        fault = λ four. absurd (let same = (d.answered (inr (inr (inr four)))).0 in omega (arith, same, four, three));
        on = on;
      }
    where
      refusal_status : (answer : Answer) (missed over : Type 0) → IsCaused missed over (Refused answer) → answer.status ≡ 3
      refusal_status answer missed over (inl c) = ap (λ (a : Answer). a.status) c.0
      refusal_status answer missed over (inr (inl c)) = ap (λ (a : Answer). a.status) c.0
      refusal_status answer missed over (inr (inr c)) = ap (λ (a : Answer). a.status) c.2

      says : (answer : Answer) (before now : Outside) (missed over : Type 0) → IsCaused missed over (Refused answer) → now.err.told ≡ appended before.err.told answer.err
          → (EndsWithLine [] no_script.err before.err now.err × missed) ⊎ (EndsWithLine [] script_too_long.err before.err now.err × over)
          ⊎ ((line : ℕ) × (refusal : ScriptKind) × EndsWithLine [] (line_answer line refusal).err before.err now.err) ⊎ ((echo : List ℕ) × EndsWithLine echo no_node.err before.err now.err)
      says answer before now missed over (inl c) told = inl (ends_as [] answer.err no_script.err before.err now.err (inl refl) line_no_script (ap (λ (a : Answer). a.err) c.0) told, c.1)
      says answer before now missed over (inr (inl c)) told = inr (inl (ends_as [] answer.err script_too_long.err before.err now.err (inl refl) line_too_long (ap (λ (a : Answer). a.err) c.0) told, c.1))
      says answer before now missed over (inr (inr c)) told =
          inr (inr (inl (c.0, c.1, ends_as [] answer.err (line_answer c.0 c.1).err before.err now.err (inl refl) (line_refusal c.0 c.1) (ap (λ (a : Answer). a.err) c.2) told)))
