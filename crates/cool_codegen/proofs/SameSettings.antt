-- Code that was generated in one context is also the code for an equal context, with equal constant tables before it and equal variables in scope.
use Rattle.std.proofs.Common.{◌≡◌, ℕ, List, length, subst}
use Rattle.std.specs.Prelude.{Result}
use Rattle.std.specs.Global.{Vec}
use Rattle.mips_isa.specs.declared.line.Line as declared_line
use Rattle.mips_isa.specs.Lines.{Name, lines_of}
use Rattle.cool_syntax.specs.declared.node.Node.{Node}
use Rattle.cool_syntax.specs.declared.node.NodeId.{NodeId}
use Rattle.cool_syntax.specs.declared.node.NodeBranch.{NodeBranch}
use Rattle.cool_consts.specs.Constants.{Constants}
use Rattle.cool_codegen.specs.declared.code.Code.{Code}
use Rattle.cool_codegen.specs.declared.code_setting.CodeSetting.{CodeSetting}
use Rattle.cool_codegen.specs.AddedCode.{Adds, AddsNode, NotesAlone}
use Rattle.cool_codegen.specs.Numbered.{asked_at, branch_lines, branch_spans, lines_at, node_asked, node_lines, node_size, node_spans, size_at, spans_at}
use Rattle.cool_codegen.specs.CodeSettings.{context}
use Rattle.cool_codegen.specs.Variables.{Named}

-- the code of an expression was added
abbrev AddsAt : {X E : Type 0} → ℕ → NodeId → Code → Code → Result X E → CodeSetting → Constants → List Named → Type 0
AddsAt d id before after result s t vs =
    Adds (lines_at (context s) s.body.now t vs d id) (spans_at s.wanted (context s) s.body.now vs d (length (lines_of before.lines.items)) id)
    (asked_at (context s).files s.body.now t id) (size_at s.body.now id) before after result

pub added_in : {X E : Type 0} (d : ℕ) (id : NodeId) (before after : Code) (result : Result X E) (s r : CodeSetting) (t u : Constants) (vs ws : List Named) → s ≡ r → t ≡ u → vs ≡ ws → AddsAt d id before after result s t vs → AddsAt d id before after result r u ws
added_in d id before after result s r t u vs ws same asked scope made =
    subst (AddsAt d id before after result r u) scope
    (subst (λ (v : Constants). AddsAt d id before after result r v vs) asked
    (subst (λ (q : CodeSetting). AddsAt d id before after result q t vs) same made))

-- the code of a branch was added
abbrev AddsBranch : {X E : Type 0} → ℕ → Name → NodeBranch → Code → Code → Result X E → Constants → CodeSetting → List Named → Type 0
AddsBranch d end w before after result t s vs =
    Adds (branch_lines (context s) s.body.now t vs d end w) (branch_spans s.wanted (context s) s.body.now vs d (lines_of before.lines.items) w)
    (asked_at (context s).files s.body.now t w.body) (size_at s.body.now w.body) before after result

pub branch_added_in : {X E : Type 0} (d : ℕ) (end : Name) (w : NodeBranch) (before after : Code) (result : Result X E) (t : Constants) (s r : CodeSetting) (vs ws : List Named) → s ≡ r → vs ≡ ws → AddsBranch d end w before after result t s vs → AddsBranch d end w before after result t r ws
branch_added_in d end w before after result t s r vs ws same scope made =
    subst (AddsBranch d end w before after result t r) scope
    (subst (λ (q : CodeSetting). AddsBranch d end w before after result t q vs) same made)

-- the code of a node was added, behind the begin of its span
abbrev AddsIn : {X E : Type 0} → ℕ → NodeId → Node → Code → Code → Result X E → CodeSetting → List Named → List declared_line.Line → Constants → Type 0
AddsIn d id n before after result s vs ls t =
    Adds (node_lines (context s) s.body.now t vs d id n) (node_spans s.wanted (context s) s.body.now t vs d (lines_of ls) id n) (node_asked (context s).files s.body.now t n) (node_size s.body.now n) before after result

pub in_begun : {X E : Type 0} (d : ℕ) (id : NodeId) (n : Node) (old begun after : Code) (result : Result X E) → NotesAlone old begun → AddsNode d id n begun after result
    → AddsIn d id n begun after result old.setting old.variables old.lines.items old.consts
in_begun d id n old begun after result alone made =
    subst (AddsIn d id n begun after result old.setting old.variables old.lines.items) alone.consts
    (subst (λ (v : Vec declared_line.Line). AddsIn d id n begun after result old.setting old.variables v.items begun.consts) alone.lines
    (subst (λ (vs : List Named). AddsIn d id n begun after result old.setting vs begun.lines.items begun.consts) alone.scope
    (subst (λ (s : CodeSetting). AddsIn d id n begun after result s begun.variables begun.lines.items begun.consts) alone.setting made)))
