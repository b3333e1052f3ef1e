-- Examples of operators, library procedures and tables: one at least for each clause of Integer, Figure, Operator, Library and Evaluate.
use Prim.Native.Nat.{ℕ}
use Prim.Native.String.{String}
use mathlib.Core.Path.{refl}
use mathlib.Core.List.{List, [], ◌∷◌}
use lib.IntN.{ℤ, pos}
use Rattle.meaning.specs.Basics.{bytes}
use Rattle.meaning.specs.Figure.{Figure, line, ellipse, box, text}
use Rattle.meaning.specs.Value.{Value, integer, string, none, table, shape}
use Rattle.meaning.specs.Tree.{add}
use Rattle.meaning.specs.Operator.{operate}
use Rattle.meaning.proofs.Computing.{everything}
use Rattle.meaning.proofs.Rows.{Row, ◌gives◌, Hold, minus, standing, Shown, value, figure, shown, evaluated, evaluated_bytes, whole, less, word, yes, no, fails, kinds_at, kinds_of}

-- ---- figure 3: an operator's left operand by rows, its right by columns, each an integer, a string, a boolean, none, a table, a shape
abbrev pub operator_kinds : List (Row String (List ℕ))
operator_kinds =
    "++" gives bytes " ...... .s.... ...... ...... ...... ......"
    ∷ "+" gives bytes " i..... ...... ...... ...... ...... f....."
    ∷ "-" gives bytes " i..... ...... ...... ...... ...... f....."
    ∷ "*" gives bytes " i..... ...... ...... ...... ...... f....."
    ∷ "/" gives bytes " i..... ...... ...... ...... ...... f....."
    ∷ "%" gives bytes " i..... ...... ...... ...... ...... ......"
    ∷ ">>" gives bytes " i..... ...... ...... ...... ...... f....."
    ∷ "<<" gives bytes " i..... ...... ...... ...... ...... f....."
    ∷ "==" gives bytes " b..b.. .b.b.. ..bb.. bbbbbb ...b.. ...b.b"
    ∷ "!=" gives bytes " b..b.. .b.b.. ..bb.. bbbbbb ...b.. ...b.b"
    ∷ ">" gives bytes " b..... ...... ...... ...... ...... ......"
    ∷ "<" gives bytes " b..... ...... ...... ...... ...... ......"
    ∷ []

pub operator_kinds_lem : Hold kinds_of operator_kinds
unfolding everything kinds_of evaluated_bytes
operator_kinds_lem = refl

-- ---- what else asks for kinds
abbrev pub other_kinds : List (Row String (List ℕ))
other_kinds =
    "[#]" gives bytes "t....."
    ∷ "#.1" gives bytes "....s."
    ∷ "drawLine(#,2,3,4)" gives bytes "f....."
    ∷ "drawLine(1,#,3,4)" gives bytes "f....."
    ∷ "drawLine(1,2,#,4)" gives bytes "f....."
    ∷ "drawLine(1,2,3,#)" gives bytes "f....."
    ∷ "drawEllipse(#,2,3,#)" gives bytes "f....."
    ∷ "drawBox(1,#,#,4)" gives bytes "f....."
    ∷ "drawText(#,2,s)" gives bytes "f....."
    ∷ "drawText(1,#,s)" gives bytes "f....."
    ∷ "drawText(1,2,#)" gives bytes ".f...."
    ∷ "drawLineConnectingShapes(#,l)" gives bytes ".....f"
    ∷ "drawLineConnectingShapes(l,#)" gives bytes ".....f"
    ∷ "drawTextOnShape(#,s)" gives bytes ".....f"
    ∷ "drawTextOnShape(l,#)" gives bytes ".f...."
    ∷ "getShapeXCoordinate(#)" gives bytes ".....i"
    ∷ "getShapeYCoordinate(#)" gives bytes ".....i"
    ∷ "destroyShape(#)" gives bytes ".....o"
    ∷ "clearScene(#)" gives bytes "......"
    ∷ []

pub other_kinds_lem : Hold kinds_at other_kinds
unfolding everything kinds_at evaluated_bytes
other_kinds_lem = refl

-- ---- integers
abbrev pub integers : List (Row String Shown)
integers =
    "7+2" gives whole 9
    ∷ "7+-9" gives less 2
    ∷ "max+1" gives less 2147483648
    ∷ "max+0" gives whole 2147483647
    ∷ "min+max" gives less 1
    ∷ "min+min" gives whole 0
    ∷ "7-2" gives whole 5
    ∷ "2-7" gives less 5
    ∷ "min-1" gives whole 2147483647
    ∷ "min-0" gives less 2147483648
    ∷ "7*-3" gives less 21
    ∷ "65536*65536" gives whole 0
    ∷ "65536*32768" gives less 2147483648
    ∷ "max*max" gives whole 1
    ∷ "7/2" gives whole 3
    ∷ "-7/2" gives less 3
    ∷ "7/-2" gives less 3
    ∷ "-7/-2" gives whole 3
    ∷ "min/-1" gives less 2147483648
    ∷ "7%3" gives whole 1
    ∷ "-7%3" gives less 1
    ∷ "7%-3" gives whole 1
    ∷ "-7%-3" gives less 1
    ∷ "min%-1" gives whole 0
    ∷ "3<<2" gives whole 12
    ∷ "1<<31" gives less 2147483648
    ∷ "1<<32" gives whole 1
    ∷ "3<<33" gives whole 6
    ∷ "3<<-1" gives less 2147483648
    ∷ "-3<<2" gives less 12
    ∷ "9>>2" gives whole 2
    ∷ "-9>>2" gives less 3
    ∷ "max>>30" gives whole 1
    ∷ "max>>31" gives whole 0
    ∷ "max>>32" gives whole 2147483647
    ∷ "min>>31" gives less 1
    ∷ "max>>-2" gives whole 1
    ∷ "7/0" gives fails 70
    ∷ "7%0" gives fails 70
    ∷ "0/7" gives whole 0
    ∷ "0%7" gives whole 0
    ∷ "7+0" gives whole 7
    ∷ "7*0" gives whole 0
    ∷ "7>>0" gives whole 7
    ∷ "s/0" gives fails 20
    ∷ "s%0" gives fails 20
    ∷ "7/s" gives fails 20
    ∷ "7/none" gives fails 20
    ∷ []

pub integers_hold : Hold evaluated integers
unfolding everything evaluated
integers_hold = refl

-- ---- comparisons
abbrev pub comparisons : List (Row String Shown)
comparisons =
    "1<2" gives yes
    ∷ "2<1" gives no
    ∷ "2<2" gives no
    ∷ "-1<0" gives yes
    ∷ "0<-1" gives no
    ∷ "-2<-1" gives yes
    ∷ "-1<-2" gives no
    ∷ "min<max" gives yes
    ∷ "1>2" gives no
    ∷ "2>1" gives yes
    ∷ "2>2" gives no
    ∷ "-1>0" gives no
    ∷ "0>-1" gives yes
    ∷ "-1>-2" gives yes
    ∷ "2==2" gives yes
    ∷ "2==3" gives no
    ∷ "0==-1" gives no
    ∷ "-1==0" gives no
    ∷ "-2==-2" gives yes
    ∷ "-2==-3" gives no
    ∷ "2!=2" gives no
    ∷ "2!=3" gives yes
    ∷ "s==\"ab\"" gives yes
    ∷ "s==\"a\"" gives no
    ∷ "\"a\"==s" gives no
    ∷ "s!=\"ac\"" gives yes
    ∷ "true==true" gives yes
    ∷ "false==false" gives yes
    ∷ "true==false" gives no
    ∷ "false!=true" gives yes
    ∷ "none==none" gives yes
    ∷ "none!=none" gives no
    ∷ "none==0" gives no
    ∷ "false==none" gives no
    ∷ "t==none" gives no
    ∷ "none!=f" gives yes
    ∷ "f==f" gives yes
    ∷ "f!=f" gives no
    ∷ "f==drawBox(2,9,3,10)" gives yes
    ∷ "f==drawBox(1,9,3,10)" gives no
    ∷ "f==drawBox(2,8,3,10)" gives no
    ∷ "f==drawBox(2,9,4,10)" gives no
    ∷ "f==drawBox(2,9,3,11)" gives no
    ∷ "f==drawEllipse(2,9,3,10)" gives no
    ∷ "f==drawLine(2,9,3,10)" gives no
    ∷ "l==drawLine(1,2,30,40)" gives yes
    ∷ "e==drawEllipse(5,6,7,8)" gives yes
    ∷ "e==drawEllipse(5,6,8,7)" gives no
    ∷ "x==drawText(11,12,s)" gives yes
    ∷ "x==drawText(11,12,\"ac\")" gives no
    ∷ "x==drawText(11,13,s)" gives no
    ∷ "(l*1)==l" gives yes
    ∷ "(e*1)==e" gives yes
    ∷ "(f*1)==f" gives yes
    ∷ "(x*1)==x" gives yes
    ∷ "(e/1)==e" gives yes
    ∷ "(f/1)==f" gives yes
    ∷ "(f*2)==f" gives no
    ∷ "t==t" gives fails 20
    ∷ "t!=u" gives fails 20
    ∷ []

pub comparisons_hold : Hold evaluated comparisons
unfolding everything evaluated
comparisons_hold = refl

-- ---- shapes
abbrev four : (ℤ → ℤ → ℤ → ℤ → Figure) → ℕ → ℕ → ℕ → ℕ → Figure
four make a b c d = make (pos a) (pos b) (pos c) (pos d)

abbrev pub shapes : List (Row String Shown)
shapes =
    "l+5" gives figure (four line 1 7 30 45)
    ∷ "e+5" gives figure (four ellipse 5 11 7 8)
    ∷ "f+5" gives figure (four box 2 14 3 10)
    ∷ "x+5" gives figure (text (pos 11) (pos 17) (bytes "ab"))
    ∷ "l-5" gives figure (line (pos 1) (minus 3) (pos 30) (pos 35))
    ∷ "e-5" gives figure (four ellipse 5 1 7 8)
    ∷ "f-5" gives figure (four box 2 4 3 10)
    ∷ "x-5" gives figure (text (pos 11) (pos 7) (bytes "ab"))
    ∷ "l>>5" gives figure (four line 6 2 35 40)
    ∷ "e>>5" gives figure (four ellipse 10 6 7 8)
    ∷ "f>>5" gives figure (four box 7 9 3 10)
    ∷ "x>>5" gives figure (text (pos 16) (pos 12) (bytes "ab"))
    ∷ "l<<5" gives figure (line (minus 4) (pos 2) (pos 25) (pos 40))
    ∷ "e<<5" gives figure (four ellipse 0 6 7 8)
    ∷ "f<<5" gives figure (box (minus 3) (pos 9) (pos 3) (pos 10))
    ∷ "x<<5" gives figure (text (pos 6) (pos 12) (bytes "ab"))
    ∷ "l*5" gives figure (four line 5 10 150 200)
    ∷ "e*5" gives figure (four ellipse 25 30 35 40)
    ∷ "f*5" gives figure (four box 10 45 15 50)
    ∷ "x*5" gives figure (text (pos 55) (pos 60) (bytes "ab"))
    ∷ "l/2" gives figure (four line 0 1 15 20)
    ∷ "e/2" gives figure (four ellipse 2 3 3 4)
    ∷ "f/2" gives figure (four box 1 4 1 5)
    ∷ "x/2" gives figure (text (pos 5) (pos 6) (bytes "ab"))
    ∷ "f>>33" gives figure (four box 35 9 3 10)
    ∷ "f+max" gives figure (box (pos 2) (minus 2147483640) (pos 3) (pos 10))
    ∷ "f/-2" gives figure (box (minus 1) (minus 4) (minus 1) (minus 5))
    ∷ "f/0" gives fails 70
    ∷ "f*0" gives figure (four box 0 0 0 0)
    ∷ "f*max" gives figure (box (minus 2) (pos 2147483639) (pos 2147483645) (minus 10))
    ∷ "e*-1" gives figure (ellipse (minus 5) (minus 6) (minus 7) (minus 8))
    ∷ "drawBox(1,2,-3,7)/2" gives figure (box (pos 0) (pos 1) (minus 1) (pos 3))
    ∷ "drawBox(1,min,min,2)/-1" gives figure (box (minus 1) (minus 2147483648) (minus 2147483648) (minus 2))
    ∷ "drawEllipse(1,2,65536,32768)*65536" gives figure (ellipse (pos 65536) (pos 131072) (pos 0) (minus 2147483648))
    ∷ "x/0" gives fails 70
    ∷ "f/s" gives fails 20
    ∷ "getShapeXCoordinate(l)" gives whole 15
    ∷ "getShapeYCoordinate(l)" gives whole 21
    ∷ "getShapeXCoordinate(e)" gives whole 5
    ∷ "getShapeYCoordinate(e)" gives whole 6
    ∷ "getShapeXCoordinate(f)" gives whole 3
    ∷ "getShapeYCoordinate(f)" gives whole 14
    ∷ "getShapeXCoordinate(x)" gives whole 11
    ∷ "getShapeYCoordinate(x)" gives whole 12
    ∷ "getShapeXCoordinate(drawLine(max,0,max,0))" gives whole 2147483647
    ∷ "getShapeYCoordinate(drawLine(0,min,0,min))" gives less 2147483648
    ∷ "getShapeXCoordinate(drawLine(-4,0,1,0))" gives less 1
    ∷ "getShapeYCoordinate(drawLine(0,-4,0,1))" gives less 1
    ∷ "getShapeXCoordinate(drawBox(max,0,2,0))" gives less 2147483648
    ∷ "getShapeYCoordinate(drawBox(0,max,0,2))" gives less 2147483648
    ∷ "getShapeXCoordinate(drawBox(10,0,-3,0))" gives whole 9
    ∷ "getShapeYCoordinate(drawBox(0,10,0,-3))" gives whole 9
    ∷ []

pub shapes_hold : Hold evaluated shapes
unfolding everything evaluated
shapes_hold = refl

-- ---- library procedures
abbrev pub procedures : List (Row String Shown)
procedures =
    "drawLine(1,2,3,4)" gives figure (four line 1 2 3 4)
    ∷ "drawEllipse(1,2,3,4)" gives figure (four ellipse 1 2 3 4)
    ∷ "drawBox(1,2,3,4)" gives figure (four box 1 2 3 4)
    ∷ "drawText(1,2,s)" gives figure (text (pos 1) (pos 2) (bytes "ab"))
    ∷ "drawLineConnectingShapes(l,f)" gives figure (four line 15 21 3 14)
    ∷ "drawLineConnectingShapes(e,x)" gives figure (four line 5 6 11 12)
    ∷ "drawTextOnShape(f,\"day\")" gives figure (text (pos 3) (pos 14) (bytes "day"))
    ∷ "drawTextOnShape(l,s)" gives figure (text (pos 15) (pos 21) (bytes "ab"))
    ∷ "destroyShape(f)" gives value none
    ∷ "clearScene()" gives value none
    ∷ "drawLine(1,2,3)" gives fails 20
    ∷ "drawLine(1,2,3,4,5)" gives fails 20
    ∷ "drawLine(1,2)" gives fails 20
    ∷ "drawLine(1)" gives fails 20
    ∷ "drawLine()" gives fails 20
    ∷ "drawEllipse()" gives fails 20
    ∷ "drawBox(1,2,3,4,5)" gives fails 20
    ∷ "drawText(1,2)" gives fails 20
    ∷ "drawText(1)" gives fails 20
    ∷ "drawText()" gives fails 20
    ∷ "drawText(1,2,s,s)" gives fails 20
    ∷ "drawLineConnectingShapes(f)" gives fails 20
    ∷ "drawLineConnectingShapes()" gives fails 20
    ∷ "drawLineConnectingShapes(f,f,f)" gives fails 20
    ∷ "drawTextOnShape(f)" gives fails 20
    ∷ "drawTextOnShape(f,s,s)" gives fails 20
    ∷ "getShapeXCoordinate()" gives fails 20
    ∷ "getShapeXCoordinate(f,f)" gives fails 20
    ∷ "getShapeYCoordinate()" gives fails 20
    ∷ "destroyShape()" gives fails 20
    ∷ "destroyShape(f,f)" gives fails 20
    ∷ "clearScene(f)" gives fails 20
    ∷ "drawline(1,2,3,4)" gives fails 20
    ∷ "drawLines(1,2,3,4)" gives fails 20
    ∷ "drawGroup(t)" gives fails 20
    ∷ "sin(1)" gives fails 20
    ∷ "main(1,2)" gives fails 20
    ∷ []

pub procedures_hold : Hold evaluated procedures
unfolding everything evaluated
procedures_hold = refl

-- ---- a destroyed shape on either side
abbrev one : Value
one = integer (pos 1)

abbrev pub sides : List (Row (Value × Value) Shown)
sides =
    (one, one) gives whole 2
    ∷ (shape 4, one) gives fails 30
    ∷ (one, shape 4) gives fails 30
    ∷ (shape 4, string []) gives fails 30
    ∷ (string [], shape 4) gives fails 30
    ∷ []

pub sides_hold : Hold (λ (q : Value × Value). shown (operate add 5 q.0 q.1 standing).end) sides
unfolding everything shown
sides_hold = refl

-- ---- names, tables and the order of questions
abbrev pub questions : List (Row String Shown)
questions =
    "i" gives whole 7
    ∷ "-5" gives less 5
    ∷ "\"day\"" gives word "day"
    ∷ "none" gives value none
    ∷ "true" gives yes
    ∷ "false" gives no
    ∷ "(i)" gives whole 7
    ∷ "f" gives figure (four box 2 9 3 10)
    ∷ "y" gives fails 50
    ∷ "ii" gives fails 50
    ∷ "d" gives fails 30
    ∷ "[0]" gives value (table 2)
    ∷ "[max]" gives value (table 2)
    ∷ "[-1]" gives fails 40
    ∷ "[min]" gives fails 40
    ∷ "t.1" gives word "one"
    ∷ "u.1" gives whole 22
    ∷ "t.s" gives figure (four box 2 9 3 10)
    ∷ "t.2" gives fails 20
    ∷ "u.9" gives fails 20
    ∷ "u.s" gives fails 20
    ∷ "t.\"a\"" gives fails 20
    ∷ "t.true" gives fails 20
    ∷ "t.9" gives fails 30
    ∷ "[0].1" gives fails 20
    ∷ "s++\"c\"" gives word "abc"
    ∷ "\"c\"++s" gives word "cab"
    ∷ "y+(1/0)" gives fails 50
    ∷ "(1/0)+y" gives fails 70
    ∷ "y.(1/0)" gives fails 50
    ∷ "t.(1/0)" gives fails 70
    ∷ "i.(1/0)" gives fails 20
    ∷ "foo(y,1/0)" gives fails 50
    ∷ "foo(1/0,y)" gives fails 70
    ∷ "f+destroyShape(f)" gives fails 30
    ∷ "destroyShape(f)+f" gives fails 30
    ∷ "f==destroyShape(f)" gives fails 30
    ∷ "f==destroyShape(e)" gives no
    ∷ "drawText(f,destroyShape(f))" gives fails 30
    ∷ "drawText(destroyShape(f),f)" gives fails 30
    ∷ "drawText(1,f,destroyShape(f))" gives fails 30
    ∷ "drawLine(1,2,f,destroyShape(f))" gives fails 30
    ∷ "foo(f,destroyShape(f))" gives fails 20
    ∷ "f+clearScene()" gives fails 30
    ∷ "destroyShape(clearScene())" gives fails 20
    ∷ []

pub questions_hold : Hold evaluated questions
unfolding everything evaluated
questions_hold = refl
