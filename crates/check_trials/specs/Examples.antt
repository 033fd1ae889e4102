-- Worked examples of the verdict, from the bytes of a text.
use Rattle.std.specs.Prelude.{◌≡◌, codes}
use Rattle.verdict.specs.Verdicts.{verdict_of, said}

-- a variable that one branch sets may be unset afterwards, and one that both set is not
pub record Unset : Type 0 where
  pub one : verdict_of (codes "program p; var b: boolean; x: integer; begin read(b); if b then x := 1; write(x) end.") ≡ said 24 78
  pub both : verdict_of (codes "program p; var b: boolean; x: integer; begin read(b); if b then x := 1 else x := 2; write(x) end.") ≡ said 0 0

-- a sum of 33 variables needs 32 temporaries, one of 34 needs one too many
pub record Temporaries : Type 0 where
  pub enough : verdict_of (codes "program p; var a,b,c,d,e,f,g,h,i,j,k,l,m,n,o,p,q,r,s,t,u,v,w,x,y,z,aa,ab,ac,ad,ae,af,ag:integer; begin read(a);read(b);read(c);read(d);read(e);read(f);read(g);read(h);read(i);read(j);read(k);read(l);read(m);read(n);read(o);read(p);read(q);read(r);read(s);read(t);read(u);read(v);read(w);read(x);read(y);read(z);read(aa);read(ab);read(ac);read(ad);read(ae);read(af);read(ag); write(a+b+c+d+e+f+g+h+i+j+k+l+m+n+o+p+q+r+s+t+u+v+w+x+y+z+aa+ab+ac+ad+ae+af+ag) end.") ≡ said 0 0
  pub too_few : verdict_of (codes "program p; var a,b,c,d,e,f,g,h,i,j,k,l,m,n,o,p,q,r,s,t,u,v,w,x,y,z,aa,ab,ac,ad,ae,af,ag,ah:integer; begin read(a);read(b);read(c);read(d);read(e);read(f);read(g);read(h);read(i);read(j);read(k);read(l);read(m);read(n);read(o);read(p);read(q);read(r);read(s);read(t);read(u);read(v);read(w);read(x);read(y);read(z);read(aa);read(ab);read(ac);read(ad);read(ae);read(af);read(ag);read(ah); write(a+b+c+d+e+f+g+h+i+j+k+l+m+n+o+p+q+r+s+t+u+v+w+x+y+z+aa+ab+ac+ad+ae+af+ag+ah) end.") ≡ said 25 465
