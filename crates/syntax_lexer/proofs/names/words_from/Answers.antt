use Rattle.std.proofs.Common.{subst, ◌∙◌}
use Rattle.std.specs.List.{Contains}
use Rattle.syntax_lexer.proofs.WordTables.{words_with, begun}
use Rattle.syntax_lexer.proofs.names.words_from.Goals as goal

pub returns-in-97 : goal.returns-in-97
returns-in-97 c = λ x e. subst (λ b. Contains (words_with b) x) (e ∙ c.in-97.is) (begun x)

pub returns-in-98 : goal.returns-in-98
returns-in-98 c = λ x e. subst (λ b. Contains (words_with b) x) (e ∙ c.in-98.is) (begun x)

pub returns-in-99 : goal.returns-in-99
returns-in-99 c = λ x e. subst (λ b. Contains (words_with b) x) (e ∙ c.in-99.is) (begun x)

pub returns-in-100 : goal.returns-in-100
returns-in-100 c = λ x e. subst (λ b. Contains (words_with b) x) (e ∙ c.in-100.is) (begun x)

pub returns-in-101 : goal.returns-in-101
returns-in-101 c = λ x e. subst (λ b. Contains (words_with b) x) (e ∙ c.in-101.is) (begun x)

pub returns-in-102 : goal.returns-in-102
returns-in-102 c = λ x e. subst (λ b. Contains (words_with b) x) (e ∙ c.in-102.is) (begun x)

pub returns-in-103 : goal.returns-in-103
returns-in-103 c = λ x e. subst (λ b. Contains (words_with b) x) (e ∙ c.in-103.is) (begun x)

pub returns-in-104 : goal.returns-in-104
returns-in-104 c = λ x e. subst (λ b. Contains (words_with b) x) (e ∙ c.in-104.is) (begun x)

pub returns-in-105 : goal.returns-in-105
returns-in-105 c = λ x e. subst (λ b. Contains (words_with b) x) (e ∙ c.in-105.is) (begun x)

pub returns-in-109 : goal.returns-in-109
returns-in-109 c = λ x e. subst (λ b. Contains (words_with b) x) (e ∙ c.in-109.is) (begun x)

pub returns-in-110 : goal.returns-in-110
returns-in-110 c = λ x e. subst (λ b. Contains (words_with b) x) (e ∙ c.in-110.is) (begun x)

pub returns-in-111 : goal.returns-in-111
returns-in-111 c = λ x e. subst (λ b. Contains (words_with b) x) (e ∙ c.in-111.is) (begun x)

pub returns-in-112 : goal.returns-in-112
returns-in-112 c = λ x e. subst (λ b. Contains (words_with b) x) (e ∙ c.in-112.is) (begun x)

pub returns-in-113 : goal.returns-in-113
returns-in-113 c = λ x e. subst (λ b. Contains (words_with b) x) (e ∙ c.in-113.is) (begun x)

pub returns-in-114 : goal.returns-in-114
returns-in-114 c = λ x e. subst (λ b. Contains (words_with b) x) (e ∙ c.in-114.is) (begun x)

pub returns-in-115 : goal.returns-in-115
returns-in-115 c = λ x e. subst (λ b. Contains (words_with b) x) (e ∙ c.in-115.is) (begun x)

pub returns-in-116 : goal.returns-in-116
returns-in-116 c = λ x e. subst (λ b. Contains (words_with b) x) (e ∙ c.in-116.is) (begun x)

pub returns-in-117 : goal.returns-in-117
returns-in-117 c = λ x e. subst (λ b. Contains (words_with b) x) (e ∙ c.in-117.is) (begun x)

pub returns-in-119 : goal.returns-in-119
returns-in-119 c = λ x e. subst (λ b. Contains (words_with b) x) (e ∙ c.in-119.is) (begun x)
