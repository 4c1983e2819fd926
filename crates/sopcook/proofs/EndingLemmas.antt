-- How a run ends once its script was read.
use Rattle.std.proofs.Common.{◌≡◌, ℕ, ◌≤◌, List, ◌++◌, ◌⊎◌, inl, inr, refl, ◌∙◌, ap, subst, arith}
use Rattle.std.specs.Prelude.{Option, None, Some, IfSome, codes}
use Rattle.sop_outside.specs.Causes.{Rose}
use Rattle.sop_outside.specs.Told.{appended, AppendsPrefix}
use Rattle.hscript_text.specs.declared.script.Script.{Script}
use Rattle.hscript_text.specs.WholeLines.{AreLines}
use Rattle.sopcook.specs.declared.answer.Answer.{Answer}
use Rattle.sopcook.specs.declared.run_end.RunEnd.{RunEnd}
use Rattle.sopcook.specs.declared.run_end.RunEnd.TheVariants as end
use Rattle.sop_model.specs.Faults.{fault_text}
use Rattle.sopcook.specs.Request.{Asked}
use Rattle.sopcook.specs.Answer.{said, no_node, echoing, node_answer, read_line}
use Rattle.sopcook.specs.Promise.{SinkSeen, Outside, IsStatus, IsAnswered, Delivers, DeliversPrefix, EndsWithLine, SaysFault, GoesOn}
use Rattle.sopcook.specs.Endings.{IsNodeAnswer, IsNamedAnswer, Delivery, EndWithout, ScriptEnding}
use Rattle.sopcook.proofs.Prefixes.{rose_before, AppendsPrefix-none, prefix_behind, front_prefix, told_behind}
use Rattle.sopcook.proofs.LineLemmas.{line_no_node, line_read, line_fault, ends_as}

-- what holds of the bytes that files tell
pub each_told : {A : Type 0} (P Q : A → Type 0) (told : Option A) → ((names : A) → P names → Q names) → IfSome told P → IfSome told Q
each_told {A} P Q None weaker h = tt
each_told {A} P Q (Some names) weaker h = weaker names h

pub always_told : {A : Type 0} (Q : A → Type 0) (told : Option A) → ((names : A) → Q names) → IfSome told Q
always_told {A} Q None each = tt
always_told {A} Q (Some names) each = each names

-- statuses are apart
pub unanswered : (status : ℕ) → IsAnswered status → 5 ≤ status → ⊥
unanswered status (inl zero) le = omega (arith, zero, le)
unanswered status (inr (inl two)) le = omega (arith, two, le)
unanswered status (inr (inr (inl three))) le = omega (arith, three, le)
unanswered status (inr (inr (inr four))) le = omega (arith, four, le)

delivered_status : (status : ℕ) → IsAnswered status ⊎ (status ≡ 6) → IsStatus status
delivered_status status (inl answered) = inl answered
delivered_status status (inr six) = inr (inr (inl six))

pub not_delivered : (status : ℕ) → IsAnswered status ⊎ (status ≡ 6) → 5 ≤ status → (status ≡ 6 → ⊥) → ⊥
not_delivered status (inl answered) le other = unanswered status answered le
not_delivered status (inr six) le other = other six

-- the answer of a node has no other status than 0 and 4, and that of a name no other than 0, 3 and 4
node_status : (missed : Type 0) (answer : Answer) → IsNodeAnswer missed answer → (answer.status ≡ 0) ⊎ (answer.status ≡ 4)
node_status missed answer (inl zero) = inl zero
node_status missed answer (inr (f, line, cause)) = inr (ap (λ (a : Answer). a.status) line.is)

named_status : (missed : Type 0) (answer : Answer) → IsNamedAnswer missed answer → (answer.status ≡ 3) ⊎ ((answer.status ≡ 0) ⊎ (answer.status ≡ 4))
named_status missed answer (inl none) = inl (ap (λ (a : Answer). a.status) none)
named_status missed answer (inr node) = inr (node_status missed answer node)

pub named_answered : (missed : Type 0) (answer : Answer) → IsNamedAnswer missed answer → IsAnswered answer.status
named_answered missed answer named = elim (named_status missed answer named) [
  | inl three ↦ inr (inr (inl three))
  | inr node ↦ elim node [ inl zero ↦ inl zero | inr four ↦ inr (inr (inr four)) ]
]

no_words : (missed : Type 0) (answer : Answer) (status : ℕ) → IsNamedAnswer missed answer → status ≡ answer.status → status ≡ 2 → ⊥
no_words missed answer status named is two = elim (named_status missed answer named) [
  | inl three ↦ omega (arith, is, two, three)
  | inr node ↦ elim node [ inl zero ↦ omega (arith, is, two, zero) | inr four ↦ omega (arith, is, two, four) ]
]

three_is_no_node : (missed : Type 0) (answer : Answer) (status : ℕ) → IsNamedAnswer missed answer → status ≡ answer.status → status ≡ 3 → answer ≡ no_node
three_is_no_node missed answer status (inl none) is three = none
three_is_no_node missed answer status (inr node) is three = elim (node_status missed answer node) [ inl zero ↦ absurd (omega (arith, is, three, zero)) | inr four ↦ absurd (omega (arith, is, three, four)) ]

module _ (missed : Type 0) (answer : Answer) (echo : List ℕ) (lines : AreLines echo) (before now : Outside) where
  three_says_no_node : (status : ℕ) → IsNamedAnswer missed answer → status ≡ answer.status → status ≡ 3 → now.err.told ≡ appended before.err.told (echo ++ answer.err) → EndsWithLine echo no_node.err before.err now.err
  three_says_no_node status named is three told = ends_as echo answer.err no_node.err before.err now.err lines line_no_node (ap (λ (a : Answer). a.err) (three_is_no_node missed answer status named is three)) told

  four_is_a_fault : (status : ℕ) → IsNamedAnswer missed answer → (missed → Rose before.files.misses now.files.misses) → status ≡ answer.status → status ≡ 4 → now.err.told ≡ appended before.err.told (echo ++ answer.err) → SaysFault before now
  four_is_a_fault status (inl none) rose is four told = let three = ap (λ (a : Answer). a.status) none in absurd (omega (arith, three, is, four))
  four_is_a_fault status (inr (inl zero)) rose is four told = absurd (omega (arith, zero, is, four))
  four_is_a_fault status (inr (inr (f, line, cause))) rose is four told = record {
    echo = echo;
    node = line.node;
    fault = f;
    err = ends_as echo answer.err (said (line.node ++ codes ": " ++ fault_text f)) before.err now.err lines (line_fault line.node (fault_text f) line.is_name line.is_one_line) (ap (λ (a : Answer). a.err) line.is) told;
    is_name = line.is_name;
    no_file = λ e. rose (cause e);
  }

-- the answer of a node was written behind the echoed text
pub ending_delivered : (script : Script) (request : Asked) (answer : Answer) (status : ℕ) (before now : Outside) (mid : SinkSeen) → AreLines script.echoed
    → IfSome before.files.told (λ names. answer ≡ node_answer names script.net.nodes request) → IsNamedAnswer (Rose before.files.misses now.files.misses) answer → mid.told ≡ appended before.err.told script.echoed
    → before.err.faults ≤ mid.faults → Delivery answer status before.out now.out mid now.err → GoesOn before now → ScriptEnding script request status before now
ending_delivered script request answer status before now mid lines meant named echoed later d on =
    let missed = Rose before.files.misses now.files.misses in
    let no : 5 ≤ status → (status ≡ 6 → ⊥) → ⊥ = not_delivered status d.is_status in
    record {
      is_status = delivered_status status d.is_status;
      answered = λ a.
          let w = d.answered a in
          each_told (λ names. answer ≡ node_answer names script.net.nodes request) (λ names. Delivers (echoing script.echoed (node_answer names script.net.nodes request)) status before now) before.files.told
          (λ names is. subst (λ (b : Answer). Delivers (echoing script.echoed b) status before now) is (record { is_status = w.0; out = w.1; err = told_behind before.err.told mid.told now.err.told script.echoed answer.err echoed w.2 })) meant;
      read_fault = λ five. absurd (no (omega (arith, five)) (λ six. omega (arith, five, six)));
      write_fault = λ six. elim (d.failed six) [ inl out ↦ inl out | inr err ↦ inr (rose_before before.err.faults mid.faults now.err.faults later err) ];
      part = λ six. inl
          (each_told (λ names. answer ≡ node_answer names script.net.nodes request) (λ names. DeliversPrefix (echoing script.echoed (node_answer names script.net.nodes request)) before now) before.files.told
          (λ names is. subst (λ (b : Answer). DeliversPrefix (echoing script.echoed b) before now) is (record { out = d.out; err = prefix_behind before.err.told mid.told now.err.told script.echoed answer.err echoed d.err })) meant);
      memory = λ seven. absurd (no (omega (arith, seven)) (λ six. omega (arith, seven, six)));
      no_words = λ two. no_words missed answer status named (d.answered (inr (inl two))).0 two;
      no_node = λ three.
          let w = d.answered (inr (inr (inl three))) in
          three_says_no_node missed answer script.echoed lines before now status named w.0 three (told_behind before.err.told mid.told now.err.told script.echoed answer.err echoed w.2);
      fault = λ four.
          let w = d.answered (inr (inr (inr four))) in
          four_is_a_fault missed answer script.echoed lines before now status named (λ rose. rose) w.0 four (told_behind before.err.told mid.told now.err.told script.echoed answer.err echoed w.2);
      on = on;
    }

-- the echoed text could not be written
pub ending_unechoed : (script : Script) (request : Asked) (before now : Outside) → now.out.told ≡ before.out.told → AppendsPrefix before.err.told now.err.told script.echoed → Rose before.err.faults now.err.faults → GoesOn before now
    → ScriptEnding script request 6 before now
ending_unechoed script request before now out err failed on = record {
  is_status = inr (inr (inl refl));
  answered = λ a. absurd (unanswered 6 a (omega arith));
  read_fault = λ five. absurd (omega (arith, five));
  write_fault = λ six. inr failed;
  part = λ six. inl
      (always_told (λ names. DeliversPrefix (echoing script.echoed (node_answer names script.net.nodes request)) before now) before.files.told
      (λ names. record { out = AppendsPrefix-none before.out.told now.out.told (node_answer names script.net.nodes request).out out; err = front_prefix before.err.told now.err.told script.echoed (node_answer names script.net.nodes request).err err }));
  memory = λ seven. absurd (omega (arith, seven));
  no_words = λ two. omega (arith, two);
  no_node = λ three. absurd (omega (arith, three));
  fault = λ four. absurd (omega (arith, four));
  on = on;
}

pub end_status : {e : RunEnd} {status : ℕ} {before now : SinkSeen} → EndWithout e status before now → (status ≡ 5) ⊎ (status ≡ 6) ⊎ (status ≡ 7)
end_status w = elim w.statuses [ inl read ↦ elim read.1 [ inl five ↦ inl five | inr six ↦ inr (inl six) ] | inr memory ↦ inr (inr memory.1) ]

pub end_is_read : {e : RunEnd} {status : ℕ} {before now : SinkSeen} → EndWithout e status before now → status ≤ 6 → e ≡ end.Read
end_is_read w le = elim w.statuses [ inl read ↦ read.0 | inr memory ↦ absurd (let seven = memory.1 in omega (arith, seven, le)) ]

pub from_five : (status : ℕ) → (status ≡ 5) ⊎ (status ≡ 6) ⊎ (status ≡ 7) → 5 ≤ status
from_five status (inl five) = omega (arith, five)
from_five status (inr (inl six)) = omega (arith, six)
from_five status (inr (inr seven)) = omega (arith, seven)

-- a load failed or memory was wanting, behind the echoed text
pub ending_without : (script : Script) (request : Asked) (e : RunEnd) (status : ℕ) (before now : Outside) (mid : SinkSeen) → AreLines script.echoed → (e ≡ end.Read → Rose before.files.faults now.files.faults) → now.out.told ≡ before.out.told
    → mid.told ≡ appended before.err.told script.echoed → before.err.faults ≤ mid.faults → EndWithout e status mid now.err → GoesOn before now → ScriptEnding script request status before now
ending_without script request e status before now mid lines cause out echoed later w on =
    let many : 5 ≤ status = from_five status (end_status w) in
    record {
      is_status = inr (end_status w);
      answered = λ a. absurd (unanswered status a many);
      read_fault = λ five. (
        cause (end_is_read w (omega (arith, five))),
        out,
        ends_as script.echoed read_line read_line before.err now.err lines line_read refl (told_behind before.err.told mid.told now.err.told script.echoed read_line echoed (w.written five)),
      );
      write_fault = λ six. inr (rose_before before.err.faults mid.faults now.err.faults later (w.failed six).0);
      part = λ six. inr (cause (end_is_read w (omega (arith, six))), out, prefix_behind before.err.told mid.told now.err.told script.echoed read_line echoed (w.failed six).1);
      memory = λ seven. (out, w.memory seven ∙ echoed);
      no_words = λ two. omega (arith, two, many);
      no_node = λ three. absurd (omega (arith, three, many));
      fault = λ four. absurd (omega (arith, four, many));
      on = on;
    }
